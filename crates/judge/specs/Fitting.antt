-- Lines that the judge can judge.
use Rattle.std.specs.Prelude.{ℕ, ◌≡◌, true, List}
use Rattle.arithmetic.specs.Rules.{widths_hold, typed, operands_fit}
use Rattle.constraint.specs.declared.Line.{Line}
use Rattle.constraint.specs.File.{Variable, operand_word, target}
use Rattle.store.specs.Tables.{line_in, HeadsFit}

-- a line keeps its operator's rules under a row of values
pub record Fitting (xs : List Variable) (row : List ℕ) (l : Line) : Type 0 where
  pub widths : widths_hold l.operator (target xs row l.output).width (operand_word xs row l.operands.first) (operand_word xs row l.operands.second) (operand_word xs row l.operands.third) ≡ true
  pub rule : typed l.operator (target xs row l.output).width (operand_word xs row l.operands.first) (operand_word xs row l.operands.second) (operand_word xs row l.operands.third) ≡ true
  pub fit : operands_fit l.operator (operand_word xs row l.operands.first) (operand_word xs row l.operands.second) (operand_word xs row l.operands.third) ≡ true

-- a stored line whose heads have the widths of some variables, under which it keeps its rules
pub record Judgeable (row heads bodies : List ℕ) (k : ℕ) : Type 0 where
  pub variables : List Variable
  pub heads_fit : HeadsFit variables heads bodies k
  pub rules : Fitting variables row (line_in heads bodies k)
