use Rattle.std.proofs.Common.{◌-◌, div-le_self, arith}
use Rattle.arithmetic.proofs.SignedLaws.{ceiling_zero, ceiling_pos}
use Rattle.evaluation.proofs.quotients.rounded_up.Goals as goal

pub overflow_add-result : goal.overflow_add-result
overflow_add-result c = omega (arith, div-le_self (c.args.a - 1) c.args.b)

pub returns-then-a-eq0 : goal.returns-then-a-eq0
returns-then-a-eq0 c = rw c.if-a-eq0.true (ceiling_zero c.args.b c.requires)

pub returns-else-a-eq0 : goal.returns-else-a-eq0
returns-else-a-eq0 c = ceiling_pos c.args.a c.args.b c.requires (omega arith)
