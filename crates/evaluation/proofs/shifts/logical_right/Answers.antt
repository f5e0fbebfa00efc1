use Rattle.std.proofs.Common.{sym, refl, arith}
use Rattle.arithmetic.specs.Arithmetic.{shifted}
use Rattle.arithmetic.proofs.Powers.{shr_gone}
use Rattle.evaluation.proofs.shifts.logical_right.Goals as goal

pub returns-then-n-k : goal.returns-then-n-k
unfolding shifted
returns-then-n-k c = refl

pub returns-else-n-k : goal.returns-else-n-k
unfolding shifted
returns-else-n-k c = sym (shr_gone c.args.k c.args.a c.args.n (omega arith) (omega arith))
