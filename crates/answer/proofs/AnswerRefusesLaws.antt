-- Every refusal of an answer speaks of it, has a fault of the list, and a position within the file. Assumes nothing.
use Prim.Native.Nat.{ℕ, ◌^◌, ◌≤◌}
use Prim.Native.Char.{code}
use mathlib.Core.Path.{refl}
use mathlib.Core.Bool.{Bool, true, false, cond, not, ◌&&◌, ◌||◌}
use mathlib.Core.List.{List, [], ◌∷◌}
use Rattle.std.specs.Prelude.{Option, None}
use native.Mathlib.Omega.{arith}
use lib.Dec.{ltb, leb}
use lib.ListN.{length, get_or}
use Rattle.edition.specs.Edition.{max_file_bytes, max_name_bytes}
use Rattle.refusal.specs.declared.Refusal.{Refusal}
use Rattle.refusal.specs.declared.Subject.TheVariants.{Answer}
use Rattle.std.specs.Prelude.{is_some}
use Rattle.refusal.specs.declared.Fault.TheVariants.{NotSatisfiable, NoSolutionWord}
use Rattle.refusal.specs.Lists.{first_from, is_one_of}
use Rattle.refusal.specs.Result.{Ok, Err, refused_as}
use Rattle.refusal.proofs.RefusesLaws.{Refuses, refuses_accepted, refuses_refused, refuses_bind, refuses_then, refuses_ensure, refuses_value, refuses_given}
use Rattle.text.specs.Bytes.{same}
use Rattle.text.specs.Lines.{TextLine, Token, arguments}
use Rattle.text.specs.Spelling.{is_name, is_numeral, decimal, max_digits, number_bound, up_to, behind}
use Rattle.constraint.specs.File.{Variable, width_at, variable_named}
use Rattle.constraint.specs.Sound.{Each}
use Rattle.answer.specs.SolutionWords.{satisfiable, unsatisfiable, unknown}
use Rattle.answer.specs.declared.AnswerLine.{AnswerLine}
use Rattle.answer.specs.declared.AnswerLine.TheVariants.{OfComment, OfSolution, OfValues, OfNoKind}
use Rattle.answer.specs.Read.{in_answer, Settings, no_settings, solution_of, read_solution, setting_of, read_setting, read_settings, read_values, answer_kind, read_answer_as, read_answer_line, all_set, read_answer}
use Rattle.answer.specs.Refusals.{answer_faults}
use Rattle.refusal.proofs.EndsLaws.{refuses_after}
use Rattle.constraint.proofs.WithinLaws.{LineWithin, TokenWithin, FileRefusal, Readable, arguments_within, start_within, placed, next_within, no_more_within, text_ends}

-- a refusal of the answer
abbrev OfAnswer : List ℕ → Refusal → Type 0
OfAnswer = FileRefusal Answer answer_faults

module _ {bytes : List ℕ} (c : Readable Answer answer_faults bytes) where
  -- ---- the solution
  word_refuses : (t : Token) → TokenWithin bytes t → Refuses (OfAnswer bytes) (refused_as (in_answer t) (solution_of t.bytes))
  unfolding solution_of answer_faults is_one_of first_from
  word_refuses t h = go (same satisfiable t.bytes) (same unsatisfiable t.bytes || same unknown t.bytes)
    where
      go : (a b : Bool) → Refuses (OfAnswer bytes) (refused_as (in_answer t) (cond a (Ok (tt {0})) (cond b (Err NotSatisfiable) (Err NoSolutionWord))))
      go true b = refuses_accepted
      go false true = refuses_refused (placed c refl h)
      go false false = refuses_refused (placed c refl h)

  solution_refuses : (s : Settings) (l : TextLine) → LineWithin bytes l → Refuses (OfAnswer bytes) (read_solution s l)
  unfolding read_solution answer_faults is_one_of first_from
  solution_refuses s l h =
      refuses_ensure (not s.solved) _ (placed c refl (start_within bytes l h)) (
      refuses_after (next_within c l (arguments l) h (arguments_within bytes l h)) λ p k.
      refuses_then (word_refuses p.0 k.0) (
      no_more_within c p.1 k.1 refuses_accepted))

  -- ---- the values
  setting_refuses : (xs : List Variable) (t : Token) → TokenWithin bytes t → Refuses (OfAnswer bytes) (setting_of xs t)
  unfolding setting_of answer_faults is_one_of first_from
  setting_refuses xs t h =
      let name = up_to (code "=") t.bytes in
      let number = behind (code "=") t.bytes in
      refuses_ensure (is_name name && is_numeral max_digits number) _ (placed c refl h) (
      refuses_ensure (ltb (decimal number) number_bound) _ (placed c refl h) (
      refuses_ensure (leb (length name) max_name_bytes) _ (placed c refl h) (
      refuses_given (variable_named name xs) _ (placed c refl h) λ i.
      refuses_ensure (ltb (decimal number) (2 ^ width_at xs i)) _ (placed c refl h)
      refuses_accepted)))

  one_refuses : (xs : List Variable) (vs : List (Option ℕ)) (t : Token) → TokenWithin bytes t → Refuses (OfAnswer bytes) (read_setting xs vs t)
  unfolding read_setting answer_faults is_one_of first_from
  one_refuses xs vs t h =
      refuses_bind (setting_refuses xs t h) λ p.
      refuses_ensure (not (is_some (get_or vs p.0 None))) _ (placed c refl h)
      refuses_accepted

  settings_refuse : (xs : List Variable) (ts : List Token) (vs : List (Option ℕ)) → Each (TokenWithin bytes) ts → Refuses (OfAnswer bytes) (read_settings xs vs ts)
  unfolding read_settings
  settings_refuse xs [] vs hs = refuses_accepted
  settings_refuse xs (t ∷ ts) vs hs = refuses_bind (one_refuses xs vs t hs.0) λ us. settings_refuse xs ts us hs.1

  values_refuse : (xs : List Variable) (s : Settings) (l : TextLine) → LineWithin bytes l → Refuses (OfAnswer bytes) (read_values xs s l)
  unfolding read_values answer_faults is_one_of first_from
  values_refuse xs s l h =
      refuses_ensure s.solved _ (placed c refl (start_within bytes l h)) (
      refuses_bind (settings_refuse xs (arguments l) s.values (arguments_within bytes l h)) λ vs.
      refuses_accepted)

  -- ---- the answer
  as_refuses : (k : AnswerLine) (xs : List Variable) (s : Settings) (l : TextLine) → LineWithin bytes l → Refuses (OfAnswer bytes) (read_answer_as k xs s l)
  unfolding read_answer_as answer_faults is_one_of first_from
  as_refuses OfComment xs s l h = refuses_accepted
  as_refuses OfSolution xs s l h = solution_refuses s l h
  as_refuses OfValues xs s l h = values_refuse xs s l h
  as_refuses OfNoKind xs s l h = refuses_refused (placed c refl (start_within bytes l h))

  line_refuses : (xs : List Variable) (s : Settings) (l : TextLine) → LineWithin bytes l → Refuses (OfAnswer bytes) (read_answer_line xs s l)
  unfolding read_answer_line
  line_refuses xs s l h = as_refuses (answer_kind l.bytes) xs s l h

-- the faults of any file are of the list
readable : (bytes : List ℕ) → length bytes ≤ max_file_bytes → Readable Answer answer_faults bytes
unfolding answer_faults is_one_of first_from
readable bytes h = record { short = h; byte = refl; count = refl }

pub answer_refuses : (xs : List Variable) (bytes : List ℕ) → Refuses (FileRefusal Answer answer_faults bytes) (read_answer xs bytes)
unfolding read_answer answer_faults is_one_of first_from
answer_refuses xs bytes =
    refuses_after (text_ends Answer answer_faults bytes refl (readable bytes) (read_answer_line xs) (λ c. line_refuses c xs) (no_settings xs)) λ s c.
    refuses_ensure s.solved _ (placed c refl (omega arith)) (
    refuses_value (all_set s.values) _ (placed c refl (omega arith)))
