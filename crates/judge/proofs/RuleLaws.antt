-- A sound line keeps its operator's rules on widths and types under any row of values. Assumes nothing.
use Prim.Native.Nat.{ℕ}
use mathlib.Core.Path.{◌≡◌, refl, ap, ◌∙◌}
use mathlib.Core.Bool.{true, ◌&&◌}
use mathlib.Core.List.{List}
use Rattle.refusal.proofs.ResultLaws.{never}
use Rattle.refusal.proofs.BoolLaws.{and_true}
use Rattle.arithmetic.specs.declared.Operator.{Operator}
use Rattle.arithmetic.specs.declared.Operator.TheVariants.{Extr}
use Rattle.arithmetic.specs.declared.Word.{Word}
use Rattle.arithmetic.specs.Rules.{operands_taken, widths_hold, typed}
use Rattle.arithmetic.proofs.AlikeLaws.{widths_alike, typed_alike}
use Rattle.constraint.specs.declared.Operand.{Operand}
use Rattle.constraint.specs.declared.Operand.TheVariants.{Absent, Var, Const}
use Rattle.constraint.specs.declared.Line.{Line}
use Rattle.constraint.specs.File.{Variable, operand_word, target}
use Rattle.constraint.specs.TypeRules.{rule_word, result_width, is_constant, constant_rule, predicate_rule, well_typed}
use Rattle.constraint.specs.Sound.{SoundLine}

-- ---- no variable's value matters to the rules of a line
module _ (xs : List Variable) (row : List ℕ) where
  width_same : (o : Operand) → (operand_word xs row o).width ≡ (rule_word xs o).width
  unfolding operand_word rule_word
  width_same Absent = refl
  width_same (Var i) = refl
  width_same (Const w) = refl

  target_same : (o : Operand) → (target xs row o).width ≡ result_width xs o
  unfolding target operand_word result_width
  target_same Absent = refl
  target_same (Var i) = refl
  target_same (Const w) = refl

  constant_same : (o : Operand) → is_constant o ≡ true → operand_word xs row o ≡ rule_word xs o
  unfolding operand_word rule_word is_constant
  constant_same Absent e = refl
  constant_same (Var i) e = never (cc e)
  constant_same (Const w) e = refl

  widths_same : (op : Operator) (k : ℕ) (a b c : Operand) → widths_hold op k (operand_word xs row a) (operand_word xs row b) (operand_word xs row c) ≡ widths_hold op k (rule_word xs a) (rule_word xs b) (rule_word xs c)
  widths_same op k a b c =
      widths_alike (operand_word xs row a) (operand_word xs row b) (operand_word xs row c) (rule_word xs a) (rule_word xs b) (rule_word xs c) (width_same a) (width_same b) (width_same c) op k

  -- the last two operands of `extr` are constants
  constants_same : (op : Operator) (b c : Operand) → constant_rule op b c ≡ true → op ≡ Extr → ((operand_word xs row b).value ≡ (rule_word xs b).value) × ((operand_word xs row c).value ≡ (rule_word xs c).value)
  unfolding constant_rule
  constants_same op b c e q =
      let p = and_true (is_constant b) (is_constant c) (rw q at e) in
      (ap (λ (w : Word). w.value) (constant_same b p.0), ap (λ (w : Word). w.value) (constant_same c p.1))

  typed_same : (op : Operator) (k : ℕ) (a b c : Operand) → constant_rule op b c ≡ true → typed op k (operand_word xs row a) (operand_word xs row b) (operand_word xs row c) ≡ typed op k (rule_word xs a) (rule_word xs b) (rule_word xs c)
  typed_same op k a b c e =
      typed_alike (operand_word xs row a) (operand_word xs row b) (operand_word xs row c) (rule_word xs a) (rule_word xs b) (rule_word xs c) (width_same a) (width_same b) (width_same c) op k (constants_same op b c e)

-- ---- so a sound line keeps them under any row
module _ (xs : List Variable) (row : List ℕ) (l : Line) (s : SoundLine xs l) where
  pub line_widths : widths_hold l.operator (target xs row l.output).width (operand_word xs row l.operands.first) (operand_word xs row l.operands.second) (operand_word xs row l.operands.third) ≡ true
  line_widths = rw (target_same xs row l.output) (widths_same xs row l.operator (result_width xs l.output) l.operands.first l.operands.second l.operands.third ∙ s.widths)

  pub line_typed : typed l.operator (target xs row l.output).width (operand_word xs row l.operands.first) (operand_word xs row l.operands.second) (operand_word xs row l.operands.third) ≡ true
  unfolding well_typed
  line_typed =
      let k = result_width xs l.output in
      let a = rule_word xs l.operands.first in
      let b = rule_word xs l.operands.second in
      let c = rule_word xs l.operands.third in
      let t = typed l.operator k a b c in
      let r = constant_rule l.operator l.operands.second l.operands.third in
      let p = and_true t r (and_true (t && r) (predicate_rule l.output l.operator (operands_taken l.operator a b c)) s.type_rules).0 in
      rw (target_same xs row l.output) (typed_same xs row l.operator k l.operands.first l.operands.second l.operands.third p.1 ∙ p.0)
