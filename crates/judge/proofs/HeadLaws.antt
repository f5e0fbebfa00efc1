-- Operands by their heads, under a row of values. Assumes nothing.
use Prim.Native.Nat.{ℕ, ◌<◌}
use mathlib.Core.Path.{◌≡◌, refl, sym, ◌∙◌}
use mathlib.Core.Bool.{Bool, true, false}
use mathlib.Core.List.{List}
use native.Mathlib.Omega.{arith}
use lib.Dec.{leb}
use lib.ListN.{get_or}
use borrow.Author.Tests.{leb-true, leb-false}
use Rattle.arithmetic.specs.Rules.{i1}
use Rattle.constraint.specs.declared.Operand.{Operand}
use Rattle.constraint.specs.declared.Operand.TheVariants.{Absent, Var, Const}
use Rattle.constraint.specs.File.{Variable, operand_word, target}
use Rattle.constraint.specs.TypeRules.{rule_word}
use Rattle.store.specs.Tables.{line_bodies, variable_mark, operand_of, head_width, head_at, body_at, operand_in, line_in, HeadsFit}
use Rattle.store.proofs.LineTableLaws.{operand_absent, operand_variable, operand_constant}
use Rattle.judge.specs.Judge.{result_of, judge}

-- ---- the operand of a head and a body
module _ (head body : ℕ) where
  pub of_variable : leb variable_mark head ≡ true → operand_of head body ≡ Var body
  of_variable e = operand_variable head body (leb-true variable_mark head e)

  pub of_constant : leb variable_mark head ≡ false → (head ≡ 0 → ⊥) → operand_of head body ≡ Const (record { width = head; value = body })
  of_constant e n = operand_constant head body (omega arith) (leb-false variable_mark head e)

-- ---- the operand at a slot of a stored line
module _ (row heads bodies : List ℕ) (k slot : ℕ) where
  -- its word, of the width in its head
  module _ (h : slot < line_bodies) where
    pub word_variable : leb variable_mark (head_at heads k slot) ≡ true → (xs : List Variable) → HeadsFit xs heads bodies k → record { width = head_width (head_at heads k slot); value = get_or row (body_at bodies k slot) 0 } ≡ operand_word xs row (operand_in heads bodies k slot)
    unfolding operand_word rule_word operand_in
    word_variable e xs f = rw (← (f slot h), of_variable (head_at heads k slot) (body_at bodies k slot) e)

    pub word_constant : leb variable_mark (head_at heads k slot) ≡ false → (head_at heads k slot ≡ 0 → ⊥) → (xs : List Variable) → HeadsFit xs heads bodies k → record { width = head_width (head_at heads k slot); value = body_at bodies k slot } ≡ operand_word xs row (operand_in heads bodies k slot)
    unfolding operand_word rule_word operand_in
    word_constant e n xs f = rw (← (f slot h), of_constant (head_at heads k slot) (body_at bodies k slot) e n)

    pub word_absent : head_at heads k slot ≡ 0 → (xs : List Variable) → HeadsFit xs heads bodies k → record { width = head_width (head_at heads k slot); value = 0 } ≡ operand_word xs row (operand_in heads bodies k slot)
    unfolding operand_word rule_word operand_in
    word_absent e xs f = rw (← (f slot h), operand_absent (head_at heads k slot) (body_at bodies k slot) e)

  -- what it asks of the operator, as an output
  pub target_absent : head_at heads k slot ≡ 0 → (xs : List Variable) → record { width = i1; value = 1 } ≡ target xs row (operand_in heads bodies k slot)
  unfolding target operand_in
  target_absent e xs = rw (operand_absent (head_at heads k slot) (body_at bodies k slot) e)

  pub target_there : (t : Bool) → leb variable_mark (head_at heads k slot) ≡ t → (head_at heads k slot ≡ 0 → ⊥) → (xs : List Variable) → operand_word xs row (operand_in heads bodies k slot) ≡ target xs row (operand_in heads bodies k slot)
  unfolding target operand_word operand_in
  target_there true e n xs = rw (of_variable (head_at heads k slot) (body_at bodies k slot) e)
  target_there false e n xs = rw (of_constant (head_at heads k slot) (body_at bodies k slot) e n)

-- ---- operands of the same widths among other variables are the same
module _ (xs ys : List Variable) (row : List ℕ) where
  word_alike : (o : Operand) → (rule_word xs o).width ≡ (rule_word ys o).width → operand_word xs row o ≡ operand_word ys row o
  unfolding operand_word rule_word
  word_alike Absent e = refl
  word_alike (Var i) e = rw e
  word_alike (Const w) e = refl

  target_alike : (o : Operand) → (rule_word xs o).width ≡ (rule_word ys o).width → target xs row o ≡ target ys row o
  unfolding target
  target_alike Absent e = refl
  target_alike (Var i) e = word_alike (Var i) e
  target_alike (Const w) e = refl

  -- so the heads of a stored line settle how it is judged
  pub judge_alike : (heads bodies : List ℕ) (k : ℕ) → HeadsFit xs heads bodies k → HeadsFit ys heads bodies k → judge xs row (line_in heads bodies k) ≡ judge ys row (line_in heads bodies k)
  unfolding judge result_of line_in
  judge_alike heads bodies k f g =
      let same : (slot : ℕ) → slot < line_bodies → (rule_word xs (operand_in heads bodies k slot)).width ≡ (rule_word ys (operand_in heads bodies k slot)).width = λ slot h. f slot h ∙ sym (g slot h) in
      rw (word_alike _ (same 1 (omega arith)), word_alike _ (same 2 (omega arith)), word_alike _ (same 3 (omega arith)), target_alike _ (same 0 (omega arith)))
