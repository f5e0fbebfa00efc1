-- Operands by their heads, as the type rules see them. Assumes nothing.
use mathlib.Core.Path.{◌≡◌, sym, ◌∙◌}
use mathlib.Core.Bool.{Bool, true, false, ◌&&◌}
use mathlib.Core.List.{List}
use Prim.Native.Nat.{ℕ, ◌≤◌, ◌<◌}
use native.Mathlib.Decide.{ℕ_discrete, dec_lt}
use native.Mathlib.Omega.{arith}
use lib.Dec.{ltb}
use borrow.Author.Tests.{lt-ltb, le-ltb}
use Rattle.arithmetic.specs.declared.Operator.{Operator}
use Rattle.arithmetic.specs.declared.Word.{Word}
use Rattle.arithmetic.specs.Rules.{i1}
use Rattle.constraint.specs.declared.Operand.TheVariants.{Absent, Var, Const}
use Rattle.constraint.specs.File.{Variable}
use Rattle.constraint.specs.TypeRules.{rule_word, result_width, is_constant, is_predicate, predicate_rule}
use Rattle.store.specs.Tables.{variable_mark, operand_of, head_width, HeadFits}
use Rattle.store.proofs.LineTableLaws.{operand_absent, operand_variable, operand_constant}

differ : ◌≡◌ {A = Bool} true false → ⊥
differ e = let z : ◌≡◌ {A = ℕ} 0 1 = cc e in omega arith

-- what a head says of its operand
pub data HeadOf (head body : ℕ) : Type 0 where
  absent : head ≡ 0 → operand_of head body ≡ Absent → HeadOf head body
  constant : 1 ≤ head → head < variable_mark → operand_of head body ≡ Const (record { width = head; value = body }) → HeadOf head body
  variable : variable_mark ≤ head → operand_of head body ≡ Var body → HeadOf head body

pub head_of : (head body : ℕ) → HeadOf head body
head_of head body = elim (ℕ_discrete head 0) [
  | yes e ↦ absent e (operand_absent head body e)
  | no d ↦ elim (dec_lt head variable_mark) [
    | yes h ↦ let l : 1 ≤ head = omega arith in constant l h (operand_constant head body l h)
    | no h ↦ let l : variable_mark ≤ head = omega arith in variable l (operand_variable head body l)
  ]
]

module _ (head body : ℕ) (op : Operator) (ws : List Word) where
  pub predicate_absent : head ≡ 0 → is_predicate op ws ≡ predicate_rule (operand_of head body) op ws
  unfolding predicate_rule
  predicate_absent e = rw (operand_absent head body e)

  pub predicate_there : ¬ (head ≡ 0) → true ≡ predicate_rule (operand_of head body) op ws
  unfolding predicate_rule
  predicate_there d = go (head_of head body)
    where
      go : HeadOf head body → true ≡ predicate_rule (operand_of head body) op ws
      go (absent e q) = absurd (d e)
      go (constant l h q) = rw q
      go (variable l q) = rw q

module _ (xs : List Variable) (head body : ℕ) (fits : HeadFits xs head body) where
  pub rule_constant : (ltb 0 head && ltb head variable_mark) ≡ true → record { width = head_width head; value = body } ≡ rule_word xs (operand_of head body)
  unfolding rule_word
  rule_constant e = go (head_of head body)
    where
      go : HeadOf head body → record { width = head_width head; value = body } ≡ rule_word xs (operand_of head body)
      go (absent z q) = let y : ◌≡◌ {A = Bool} true false = sym e ∙ rw z in absurd (differ y)
      go (constant l h q) = rw (← fits, q)
      go (variable l q) = let y : ◌≡◌ {A = Bool} true false = sym e ∙ rw (lt-ltb 0 head (omega arith), le-ltb head variable_mark l) in absurd (differ y)

  pub rule_other : (ltb 0 head && ltb head variable_mark) ≡ false → record { width = head_width head; value = 0 } ≡ rule_word xs (operand_of head body)
  unfolding rule_word
  rule_other e = go (head_of head body)
    where
      go : HeadOf head body → record { width = head_width head; value = 0 } ≡ rule_word xs (operand_of head body)
      go (absent z q) = rw (← fits, q)
      go (constant l h q) = let y : ◌≡◌ {A = Bool} true false = sym (rw (lt-ltb 0 head l, lt-ltb head variable_mark h)) ∙ e in absurd (differ y)
      go (variable l q) = rw (← fits, q)

  pub result_there : ¬ (head ≡ 0) → head_width head ≡ result_width xs (operand_of head body)
  unfolding rule_word result_width
  result_there d = go (head_of head body)
    where
      go : HeadOf head body → head_width head ≡ result_width xs (operand_of head body)
      go (absent e q) = absurd (d e)
      go (constant l h q) = rw (← fits, q)
      go (variable l q) = rw (← fits, q)

pub result_absent : (xs : List Variable) (head body : ℕ) → head ≡ 0 → i1 ≡ result_width xs (operand_of head body)
unfolding result_width
result_absent xs head body e = rw (operand_absent head body e)

pub constant_is : (head body : ℕ) → is_constant (operand_of head body) ≡ (ltb 0 head && ltb head variable_mark)
unfolding is_constant
constant_is head body = go (head_of head body)
  where
    go : HeadOf head body → is_constant (operand_of head body) ≡ (ltb 0 head && ltb head variable_mark)
    go (absent e q) = rw (q, e)
    go (constant l h q) = rw (q, lt-ltb 0 head l, lt-ltb head variable_mark h)
    go (variable l q) = let p : 0 < head = omega arith in rw (q, lt-ltb 0 head p, le-ltb head variable_mark l)
