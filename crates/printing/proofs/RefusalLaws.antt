-- The text of a refusal: its length, and its pieces put one behind another. Assumes nothing.
use Prim.Native.Nat.{ℕ, ◌+◌, ◌≤◌}
use mathlib.Core.Path.{◌≡◌}
use mathlib.Core.List.{List}
use native.Mathlib.Omega.{arith}
use lib.ListN.{length, length-append}
use Rattle.refusal.specs.declared.Refusal.{Refusal}
use Rattle.refusal.specs.Fault.{number_of}
use Rattle.refusal.specs.declared.Subject.{Subject}
use Rattle.refusal.specs.declared.Subject.TheVariants.{Constraint, Answer, Values, Verdicts, Output, Call, Starts, Lists, Results}
use Rattle.refusal.specs.SubjectWords.{ascii, subject_word}
use Rattle.text.specs.Spelling.{max_digits}
use Rattle.printing.specs.Digits.{digits, counted}
use Rattle.printing.specs.Room.{Put}
use Rattle.printing.specs.RefusalText.{refusal_text}
use Rattle.printing.proofs.PlaceLaws.{put_then}
use Rattle.printing.proofs.DigitLaws.{digits_count}

-- a subject's word has ten bytes at most
subject_short : (s : Subject) → length (subject_word s) ≤ 10
subject_short Constraint = omega arith
subject_short Answer = omega arith
subject_short Values = omega arith
subject_short Verdicts = omega arith
subject_short Output = omega arith
subject_short Call = omega arith
subject_short Starts = omega arith
subject_short Lists = omega arith
subject_short Results = omega arith

module _ (r : Refusal) where
  refusal_length : length (refusal_text r) ≡ 10 + length (digits (number_of r.fault)) + length (subject_word r.subject) + length (digits r.position)
  unfolding refusal_text
  refusal_length = simp length-append (omega arith)

  pub refusal_bound : length (refusal_text r) ≤ 20 + max_digits + max_digits
  refusal_bound = omega (arith, refusal_length, digits_count (number_of r.fault), subject_short r.subject, digits_count r.position)

  -- as it is printed
  module _ {n : ℕ} {word : List ℕ} (numbered : n ≡ number_of r.fault) (named : word ≡ subject_word r.subject) where
    pub printed_length : length (refusal_text r) ≡ 10 + length (digits n) + length word + length (digits r.position)
    printed_length = rw (numbered, named) refusal_length

    pub put_refusal : {room : List ℕ} {at : ℕ} → at + length (refusal_text r) ≤ length room
        → {end₁ end₂ end₃ end₄ : ℕ} {room₁ room₂ room₃ room₄ : List ℕ}
        → Put (counted (ascii "refused ") n) room at end₁ room₁ → Put (ascii " ") room₁ end₁ end₂ room₂ → Put word room₂ end₂ end₃ room₃ → Put (counted (ascii " ") r.position) room₃ end₃ end₄ room₄
        → Put (refusal_text r) room at end₄ room₄
    unfolding refusal_text
    put_refusal h p q s t =
        let l = refusal_length in
        put_then h (put_then (simp length-append (omega arith)) (put_then (simp length-append (omega arith)) (rw numbered at p) q) (rw named at s)) t
