use native.Mathlib.Omega.{arith}
use Rattle.constraint.specs.TypeRules.{well_typed}
use Rattle.store.specs.Tables.{body_at, operand_in, line_in}
use Rattle.statement.proofs.typing.well_typed.Goals as goal

pub returns : goal.returns
unfolding well_typed line_in operand_in
returns c = let a = c.args in
    let None = body_at a.bodies.now a.m 0 in
    λ xs f.
    rw (c.predicate_holds.ensures None, c.constants_hold.ensures c.body_of-2.result c.body_of-3.result, c.typed.ensures)
    (rw (c.result_width-k.ensures xs None (rw c.head_of-output.ensures (f 0 (omega arith))), c.rule_word-c.ensures xs (rw (c.head_of-third.ensures, c.body_of-3.ensures) (f 3 (omega arith))), c.rule_word-b.ensures xs (rw (c.head_of-second.ensures, c.body_of-2.ensures) (f 2 (omega arith))), c.rule_word-a.ensures xs (rw (c.head_of-first.ensures, c.body_of.ensures) (f 1 (omega arith))))
    (rw (c.operator_of-op.ensures, c.head_of-output.ensures, c.head_of-first.ensures, c.head_of-second.ensures, c.head_of-third.ensures, c.body_of.ensures, c.body_of-2.ensures, c.body_of-3.ensures)))
