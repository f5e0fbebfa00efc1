-- Lines and tokens lie within their file, and so do the refusals of reading it. Assumes nothing.
use Prim.Native.Nat.{ℕ, ◌+◌, ◌≤◌}
use mathlib.Core.Path.{◌≡◌, refl}
use mathlib.Core.Bool.{Bool, true, false, cond, not, ◌&&◌}
use mathlib.Core.List.{List, [], ◌∷◌}
use native.Mathlib.Omega.{arith}
use lib.Dec.{leb}
use lib.ListN.{length, drop}
use borrow.Author.Tests.{leb-true, leb-false}
use Rattle.edition.specs.Edition.{max_file_bytes}
use Rattle.refusal.specs.declared.Subject.{Subject}
use Rattle.refusal.specs.declared.Fault.{Fault}
use Rattle.refusal.specs.Fault.{is_fault_of}
use Rattle.refusal.specs.declared.Refusal.{Refusal}
use Rattle.refusal.specs.declared.Fault.TheVariants.{FileTooLong, ByteNotAllowed, TokenCount}
use Rattle.refusal.specs.Lists.{every}
use Rattle.refusal.specs.Result.{Reply, refusal, ensure, ◌>>◌}
use Rattle.refusal.proofs.RefusesLaws.{Refuses, refuses_accepted, refuses_refused, refuses_cond, refuses_bind, refuses_ensure}
use Rattle.refusal.proofs.EndsLaws.{Ends, ends_accepted, ends_refused, ends_always}
use Rattle.text.specs.Bytes.{front_of, is_space, is_line_feed, is_allowed}
use Rattle.text.specs.Lines.{TextLine, line_end, line_of, lines_from, text_lines, Token, token_of, tokens_from, arguments}
use Rattle.text.specs.Reading.{next_token, no_more_tokens, read_any_line, read_lines, read_text}
use Rattle.text.specs.Scan.{past}
use Rattle.text.proofs.RunLaws.{past_le}
use Rattle.text.proofs.ContentLaws.{content_short}
use Rattle.constraint.specs.Sound.{Each}

-- a run is no longer than what it is a run of
run_short : (p : ℕ → Bool) (s : List ℕ) → length (front_of p s) ≤ length s
unfolding past
run_short p s = omega (arith, past_le p s 0 (omega arith))

-- one element in front, or none
each_cond : {A : Type 0} (P : A → Type 0) (t : Bool) (x : A) (xs : List A) → P x → Each P xs → Each P (cond t (x ∷ xs) xs)
each_cond P true x xs p q = (p, q)
each_cond P false x xs p q = q

-- ---- not behind the bytes: the end of a line, the start of a token
module _ (bytes : List ℕ) where
  abbrev pub LineWithin : TextLine → Type 0
  LineWithin l = line_end l ≤ length bytes

  abbrev pub TokenWithin : Token → Type 0
  TokenWithin t = t.start ≤ length bytes

  -- what ends there has such lines and tokens
  lines_within : (begins : Bool) (at : ℕ) (s : List ℕ) → at + length s ≤ length bytes → Each LineWithin (lines_from begins at s)
  unfolding lines_from line_of
  lines_within begins at [] h = tt
  lines_within begins at (b ∷ s) h =
      each_cond LineWithin begins (line_of at (b ∷ s)) (lines_from (is_line_feed b) (at + 1) s)
      (omega (arith, content_short (b ∷ s)))
      (lines_within (is_line_feed b) (at + 1) s (omega arith))

  tokens_within : (begins : Bool) (at : ℕ) (s : List ℕ) → at + length s ≤ length bytes → Each TokenWithin (tokens_from begins at s)
  unfolding tokens_from token_of
  tokens_within begins at [] h = tt
  tokens_within begins at (b ∷ s) h =
      each_cond TokenWithin (begins && not (is_space b)) (token_of at (b ∷ s)) (tokens_from (is_space b) (at + 1) s)
      (omega arith)
      (tokens_within (is_space b) (at + 1) s (omega arith))

  behind_first : (at : ℕ) (s : List ℕ) → at + length s ≤ length bytes → Each TokenWithin (tokens_from true (at + 1) (drop 1 s))
  unfolding tokens_from
  behind_first at [] h = tt
  behind_first at (b ∷ s) h = tokens_within true (at + 1) s (omega arith)

  pub arguments_within : (l : TextLine) → LineWithin l → Each TokenWithin (arguments l)
  arguments_within l h = behind_first l.start l.bytes h

  pub start_within : (l : TextLine) → LineWithin l → l.start ≤ length bytes
  start_within l h = omega arith

-- ---- the refusals of a file
-- a refusal speaks of the file, its fault is one of a list, and its position is behind neither the bytes nor the longest file
pub record FileRefusal (file : Subject) (faults : List Fault) (bytes : List ℕ) (r : Refusal) : Type 0 where
  pub speaks : r.subject ≡ file
  pub number : is_fault_of r.fault faults ≡ true
  pub within : r.position ≤ length bytes
  pub limited : r.position ≤ max_file_bytes

-- a file that is not too long; the faults of any line are of its list
pub record Readable (file : Subject) (faults : List Fault) (bytes : List ℕ) : Type 0 where
  pub short : length bytes ≤ max_file_bytes
  pub byte : is_fault_of ByteNotAllowed faults ≡ true
  pub count : is_fault_of TokenCount faults ≡ true

module _ {file : Subject} {faults : List Fault} {bytes : List ℕ} (c : Readable file faults bytes) where
  pub placed : {fault : Fault} {position : ℕ} → is_fault_of fault faults ≡ true → position ≤ length bytes → FileRefusal file faults bytes (refusal file fault position)
  placed e h = let s = c.short in record { speaks = refl; number = e; within = h; limited = omega arith }

  -- a token, and those behind it
  pub next_within : (l : TextLine) (ts : List Token) → LineWithin bytes l → Each (TokenWithin bytes) ts → Ends (FileRefusal file faults bytes) (λ p. TokenWithin bytes p.0 × Each (TokenWithin bytes) p.1) (next_token file l ts)
  next_within l [] h ks = ends_refused (placed c.count h)
  next_within l (t ∷ ts) h ks = ends_accepted ks

  -- no token, then the next step
  pub no_more_within : {B : Type 0} (ts : List Token) {next : Reply B} → Each (TokenWithin bytes) ts → Refuses (FileRefusal file faults bytes) next → Refuses (FileRefusal file faults bytes) (no_more_tokens file ts >> next)
  no_more_within [] ks h = h
  no_more_within (t ∷ ts) ks h = refuses_refused (placed c.count ks.0)

  -- what holds of each line holds of the whole
  module _ {State : Type 0} (read_line : State → TextLine → Reply State) (line : (s : State) (l : TextLine) → LineWithin bytes l → Refuses (FileRefusal file faults bytes) (read_line s l)) where
    any_line_within : (s : State) (l : TextLine) → LineWithin bytes l → Refuses (FileRefusal file faults bytes) (read_any_line file read_line s l)
    unfolding read_any_line
    any_line_within s l h = refuses_ensure (every is_allowed l.bytes) _ (placed c.byte (omega (arith, run_short is_allowed l.bytes))) (refuses_cond (every is_space l.bytes) refuses_accepted (line s l h))

    all_lines_within : (s : State) (ls : List TextLine) → Each (LineWithin bytes) ls → Refuses (FileRefusal file faults bytes) (read_lines file read_line s ls)
    unfolding read_lines
    all_lines_within s [] hs = refuses_accepted
    all_lines_within s (l ∷ ls) hs = refuses_bind (any_line_within s l hs.0) λ t. all_lines_within t ls hs.1

    lines_refuse : (s : State) → Refuses (FileRefusal file faults bytes) (read_lines file read_line s (text_lines bytes))
    lines_refuse s = all_lines_within s (text_lines bytes) (lines_within bytes true 0 bytes (omega arith))

-- a file that is too long is refused at the limit, and one that is accepted is not too long
module _ (file : Subject) (faults : List Fault) (bytes : List ℕ) (long : is_fault_of FileTooLong faults ≡ true) (readable : length bytes ≤ max_file_bytes → Readable file faults bytes) where
  length_ends : {B : Type 0} {next : Reply B} (t : Bool) → leb (length bytes) max_file_bytes ≡ t → (Readable file faults bytes → Refuses (FileRefusal file faults bytes) next) → Ends (FileRefusal file faults bytes) (λ b. Readable file faults bytes) (ensure t (refusal file FileTooLong max_file_bytes) >> next)
  length_ends true e n = let c = readable (leb-true (length bytes) max_file_bytes e) in ends_always (n c) λ b. c
  length_ends false e n = let z = leb-false (length bytes) max_file_bytes e in ends_refused (record { speaks = refl; number = long; within = omega arith; limited = omega arith })

  pub text_ends : {State : Type 0} (read_line : State → TextLine → Reply State) → (Readable file faults bytes → (s : State) (l : TextLine) → LineWithin bytes l → Refuses (FileRefusal file faults bytes) (read_line s l)) → (s : State) → Ends (FileRefusal file faults bytes) (λ t. Readable file faults bytes) (read_text file read_line s bytes)
  unfolding read_text
  text_ends read_line line s = length_ends (leb (length bytes) max_file_bytes) refl λ c. lines_refuse c read_line (line c) s
