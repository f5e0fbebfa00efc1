-- The verdict on a line from what its operator answers, and a column of all lines, put down one after the other. Assumes nothing.
use Prim.Native.Nat.{ℕ, suc, ◌+◌, ◌<◌}
use mathlib.Core.Path.{◌≡◌, sym, ◌∙◌}
use mathlib.Core.List.{List, [], ◌∷◌, ◌++◌, map-append}
use Rattle.std.specs.Prelude.{Option, None, Some}
use native.Mathlib.Numerals.{add-one}
use native.Mathlib.Omega.{arith}
use lib.ListN.{length, get_or, drop, set, length-map}
use lib.Seq.{append_snoc, drop-cons, set_at}
use borrow.Author.Tests.{eq-eqb, ne_eqb}
use Rattle.arithmetic.specs.Meaning.{value_of}
use Rattle.arithmetic.proofs.ResultLaws.{meaning_is}
use Rattle.constraint.specs.declared.Line.{Line}
use Rattle.constraint.specs.File.{Variable, operand_word, target}
use Rattle.store.specs.Tables.{line_in, lines_in}
use Rattle.constraint.specs.Sound.{Each}
use Rattle.constraint.proofs.EachLaws.{each_at}
use Rattle.store.proofs.TableLaws.{get_d_tabulate}
use Rattle.store.proofs.LineTableLaws.{lines_length, lines_more}
use Rattle.judge.specs.declared.Judged.{Judged}
use Rattle.judge.specs.declared.Verdict.TheVariants.{Violated, Holds, Disregarded}
use Rattle.judge.specs.Judge.{result_of, judge, column_of}
use Rattle.judge.specs.Fitting.{Fitting}

-- ---- one line
-- what the operator of a line answers
abbrev pub answer : List Variable → List ℕ → Line → Option ℕ
answer xs row l = value_of l.operator (target xs row l.output).width (operand_word xs row l.operands.first) (operand_word xs row l.operands.second) (operand_word xs row l.operands.third)

module _ (xs : List Variable) (row : List ℕ) (l : Line) (h : Fitting xs row l) where
  answered : answer xs row l ≡ result_of xs row l
  unfolding result_of
  answered = sym (meaning_is l.operator (target xs row l.output).width (operand_word xs row l.operands.first) (operand_word xs row l.operands.second) (operand_word xs row l.operands.third) h.widths h.rule)

  pub judge_none : answer xs row l ≡ None → record { verdict = Disregarded; result = 0 } ≡ judge xs row l
  unfolding judge
  judge_none e = rw (← answered, e)

  module _ (r : ℕ) (e : answer xs row l ≡ Some r) where
    pub judge_holds : r ≡ (target xs row l.output).value → record { verdict = Holds; result = r } ≡ judge xs row l
    unfolding judge
    judge_holds q = rw (← answered, e, eq-eqb r (target xs row l.output).value q)

    pub judge_violated : (r ≡ (target xs row l.output).value → ⊥) → record { verdict = Violated; result = r } ≡ judge xs row l
    unfolding judge
    judge_violated q = rw (← answered, e, ne_eqb r (target xs row l.output).value q)

-- ---- all lines
pub column_length : (part : Judged → ℕ) (xs : List Variable) (row : List ℕ) (ls : List Line) → length (column_of part xs row ls) ≡ length ls
unfolding column_of
column_length part xs row ls = length-map ls (λ l. part (judge xs row l))

-- what holds of each line in the tables holds of line i
pub each_line : (P : Line → Type 0) (heads bodies : List ℕ) (n i : ℕ) → Each P (lines_in heads bodies n) → i < n → P (line_in heads bodies i)
unfolding lines_in
each_line P heads bodies n i h p =
    rw (get_d_tabulate (line_in heads bodies) n i (line_in heads bodies 0) p) at (each_at P (lines_in heads bodies n) i (line_in heads bodies 0) h (omega (arith, lines_length heads bodies n)))

module _ (part : Judged → ℕ) (xs : List Variable) (row heads bodies : List ℕ) (i : ℕ) where
  column_more : column_of part xs row (lines_in heads bodies (i + 1)) ≡ column_of part xs row (lines_in heads bodies i) ++ (part (judge xs row (line_in heads bodies i)) ∷ [])
  unfolding column_of
  column_more = rw (lines_more heads bodies i) (map-append (λ l. part (judge xs row l)) (lines_in heads bodies i) (line_in heads bodies i ∷ []))

  -- the entry of line i, put behind those before it
  pub column_put : (held : List ℕ) → i < length held → set (column_of part xs row (lines_in heads bodies i) ++ drop i held) i (part (judge xs row (line_in heads bodies i))) ≡ column_of part xs row (lines_in heads bodies (i + 1)) ++ drop (i + 1) held
  column_put held h =
      let vs = column_of part xs row (lines_in heads bodies i) in
      let v = part (judge xs row (line_in heads bodies i)) in
      let l : length vs ≡ i = column_length part xs row (lines_in heads bodies i) ∙ lines_length heads bodies i in
      rw (drop-cons held i 0 h, column_more, add-one i)
      (set_at vs (get_or held i 0) (drop (suc i) held) v i l ∙ sym (append_snoc vs v (drop (suc i) held)))
