-- The type rules of lines, with nothing of meanings. No variable's value matters to them.
use Rattle.std.specs.Prelude.{Bool, true, false, ◌&&◌, ℕ, List}
use Rattle.refusal.specs.Lists.{every}
use Rattle.arithmetic.specs.declared.Operator.{Operator}
use Rattle.arithmetic.specs.declared.Operator.TheVariants.{Combine, Not, Implies, Compare, Ite, Compute, Divide, Move, Trun, Extend, Conc, Extr}
use Rattle.arithmetic.specs.declared.Word.{Word}
use Rattle.arithmetic.specs.Rules.{operands_taken, i1, is, typed}
use Rattle.constraint.specs.declared.Operand.{Operand}
use Rattle.constraint.specs.declared.Operand.TheVariants.{Absent, Var, Const}
use Rattle.constraint.specs.declared.Line.{Line}
use Rattle.constraint.specs.File.{Variable, width_at}

-- an operand as the rules see it: a constant, or the width of a variable
unfoldable pub rule_word : List Variable → Operand → Word
rule_word xs Absent = record { width = 0; value = 0 }
rule_word xs (Var i) = record { width = width_at xs i; value = 0 }
rule_word xs (Const w) = w

-- the width of a line's result: its output's; of a `p` line 1
unfoldable pub result_width : List Variable → Operand → ℕ
result_width xs Absent = i1
result_width xs (Var i) = width_at xs i
result_width xs (Const w) = w.width

-- whether an operand is a constant
unfoldable pub is_constant : Operand → Bool
is_constant Absent = false
is_constant (Var i) = false
is_constant (Const w) = true

-- "n and m are i8 constants (a variable there is 15)"
unfoldable pub constant_rule : Operator → Operand → Operand → Bool
constant_rule (Combine o) b c = true
constant_rule Not b c = true
constant_rule Implies b c = true
constant_rule (Compare o) b c = true
constant_rule Ite b c = true
constant_rule (Compute o) b c = true
constant_rule (Divide o) b c = true
constant_rule (Move o) b c = true
constant_rule Trun b c = true
constant_rule (Extend o) b c = true
constant_rule Conc b c = true
constant_rule Extr b c = is_constant b && is_constant c

-- "A `p` line has an operator of 003's section 7.2, or `& | ^ ~ ite` with all operands i1"
unfoldable pub is_predicate : Operator → List Word → Bool
is_predicate (Combine o) ws = every (is i1) ws
is_predicate Not ws = every (is i1) ws
is_predicate Implies ws = true
is_predicate (Compare o) ws = true
is_predicate Ite ws = every (is i1) ws
is_predicate (Compute o) ws = false
is_predicate (Divide o) ws = false
is_predicate (Move o) ws = false
is_predicate Trun ws = false
is_predicate (Extend o) ws = false
is_predicate Conc ws = false
is_predicate Extr ws = false

-- the `p` rule, for the lines that have no output
unfoldable pub predicate_rule : Operand → Operator → List Word → Bool
predicate_rule Absent op ws = is_predicate op ws
predicate_rule (Var i) op ws = true
predicate_rule (Const w) op ws = true

-- the whole rule of a line: its operator's type rule at the output's width, and the two rules above
unfoldable pub well_typed : List Variable → Line → Bool
well_typed xs l =
    let a = rule_word xs l.operands.first in
    let b = rule_word xs l.operands.second in
    let c = rule_word xs l.operands.third in
    typed l.operator (result_width xs l.output) a b c
    && constant_rule l.operator l.operands.second l.operands.third
    && predicate_rule l.output l.operator (operands_taken l.operator a b c)
