use Rattle.std.proofs.Common.{arith}
use Rattle.arithmetic.proofs.SignedLaws.{negative_zero, negative_pos}
use Rattle.evaluation.proofs.quotients.negative.Goals as goal

pub returns-then-q-eq0 : goal.returns-then-q-eq0
returns-then-q-eq0 c = rw c.if-q-eq0.true (negative_zero c.args.k)

pub returns-else-q-eq0 : goal.returns-else-q-eq0
returns-else-q-eq0 c = rw c.mask.ensures (negative_pos c.args.k c.args.q (omega arith) (omega arith))
