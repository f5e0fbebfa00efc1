-- The check says satisfied exactly where its conditions hold. Assumes nothing.
use Prim.Native.Nat.{ℕ}
use mathlib.Core.Path.{◌≡◌, refl, sym, ap, ◌∙◌}
use mathlib.Core.Bool.{Bool, true, false}
use mathlib.Core.List.{List, [], ◌∷◌}
use Rattle.refusal.specs.Result.{Reply, Ok, Err}
use Rattle.refusal.proofs.ResultLaws.{never}
use Rattle.arithmetic.specs.Claims.{zero_divisor}
use Rattle.constraint.specs.declared.Line.{Line}
use Rattle.constraint.specs.File.{Variable, File, edition_of, operand_word}
use Rattle.constraint.specs.Sound.{Each}
use Rattle.constraint.proofs.SoundLaws.{accepted_is_sound}
use Rattle.plain.proofs.SaysLaws.{reads_exactly}
use Rattle.judge.specs.declared.Overall.TheVariants.{Satisfied}
use Rattle.judge.specs.Judge.{judge, fresh_verdicts, overall_of}
use Rattle.judge.specs.InUse.{Tables, Room, room_of}
use Rattle.judge.specs.Claims.{ResultThere}
use Rattle.judge.proofs.ResultLaws.{results_are_there}
use Rattle.answer.proofs.AcceptsLaws.{accepts_exactly}
use Rattle.tables.specs.Check.{checking, checked, check_outcome}
use Rattle.tables.specs.Claims.{Satisfies, SatisfiedExactly}
use Rattle.answer.proofs.FitLaws.{answer_fits, row_fits_answer}
use Rattle.judge.proofs.OverallLaws.{LineHolds, satisfied_holds, holds_satisfied}
use Rattle.tables.proofs.CheckingLaws.{Steps, checking_steps, steps_checking}

-- ---- a line that holds does not divide by zero
module _ (xs : List Variable) (row : List ℕ) where
  -- whether a line divides by zero
  abbrev by_zero : Line → Bool
  by_zero l = zero_divisor l.operator (operand_word xs row l.operands.second)

  not_by_zero : (l : Line) (t : Bool) → by_zero l ≡ t → ResultThere xs row l (judge xs row l) → LineHolds xs row l → t ≡ false
  not_by_zero l true e r h = never (cc (sym (r.missing e).0 ∙ h))
  not_by_zero l false e r h = refl

  none_by_zero : (ls : List Line) → Each (λ l. ResultThere xs row l (judge xs row l)) ls → Each (LineHolds xs row) ls → Each (λ l. by_zero l ≡ false) ls
  none_by_zero [] r h = tt
  none_by_zero (l ∷ ls) r h = (not_by_zero l (by_zero l) refl r.0 h.0, none_by_zero ls r.1 h.1)

-- ---- tables of any lengths
module _ (constraint answer : List ℕ) (lent : Room) where
  -- what is satisfied meets the conditions
  pub steps_satisfy : (f : File) (row : List ℕ) → Steps constraint answer lent f row → overall_of (fresh_verdicts f row) ≡ Satisfied → Satisfies constraint answer lent
  steps_satisfy f row s e =
      let sound = accepted_is_sound constraint f s.file in
      let hold = satisfied_holds f.variables row f.lines e in
      let fit = row_fits_answer (edition_of f) f.variables answer row sound.variables sound.distinct s.answered in
      record {
        file = f;
        row = row;
        well_formed = (reads_exactly constraint f).0 s.file;
        well_typed = sound;
        sets = (accepts_exactly (edition_of f) f.variables answer row sound.variables sound.distinct).0 s.answered;
        values_fit = (answer_fits (edition_of f) f.variables answer row sound.variables sound.distinct s.answered).1;
        has_room = s.has_room;
        no_zero_divisor = none_by_zero f.variables row f.lines (results_are_there constraint f row s.file fit) hold;
        lines_hold = hold;
      }

  -- what meets the conditions is satisfied
  pub satisfies_steps : (s : Satisfies constraint answer lent) → Steps constraint answer lent s.file s.row
  satisfies_steps s =
      let sound = s.well_typed in
      record {
        file = (reads_exactly constraint s.file).1 s.well_formed;
        answered = (accepts_exactly (edition_of s.file) s.file.variables answer s.row sound.variables sound.distinct).1 s.sets;
        has_room = s.has_room;
      }

  pub satisfies_overall : (s : Satisfies constraint answer lent) → overall_of (fresh_verdicts s.file s.row) ≡ Satisfied
  satisfies_overall s = holds_satisfied s.file.variables s.row s.file.lines s.lines_hold

-- ---- the check
module _ (constraint answer : List ℕ) (t : Tables) where
  satisfied_satisfies : (r : Reply (File × List ℕ)) → checking constraint answer (room_of t) ≡ r → (checked t r).reply ≡ Ok Satisfied → Satisfies constraint answer (room_of t)
  satisfied_satisfies (Ok (f, row)) e q = steps_satisfy constraint answer (room_of t) f row (checking_steps constraint answer (room_of t) f row e) (cc q)
  satisfied_satisfies (Err r) e q = never (cc q)

  satisfies_satisfied : Satisfies constraint answer (room_of t) → (check_outcome constraint answer t).reply ≡ Ok Satisfied
  satisfies_satisfied s = rw (steps_checking constraint answer (room_of t) s.file s.row (satisfies_steps constraint answer (room_of t) s)) (ap Ok (satisfies_overall constraint answer (room_of t) s))

pub satisfied_exactly : SatisfiedExactly
satisfied_exactly constraint answer t = (satisfied_satisfies constraint answer t (checking constraint answer (room_of t)) refl, satisfies_satisfied constraint answer t)
