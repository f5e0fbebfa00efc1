use Rattle.std.proofs.Common.{◌-◌, sym, arith, pow_pos}
use Rattle.arithmetic.proofs.SignedLaws.{magnitude_low, magnitude_high}
use Rattle.evaluation.proofs.quotients.magnitude.Goals as goal

pub overflow_add-result : goal.overflow_add-result
overflow_add-result c = omega (arith, pow_pos (c.args.k - 1))

pub returns-then-a-top : goal.returns-then-a-top
returns-then-a-top c = sym (magnitude_low c.args.k c.args.a (omega arith))

pub returns-else-a-top : goal.returns-else-a-top
returns-else-a-top c = rw c.mask.ensures (sym (magnitude_high c.args.k c.args.a (omega arith) (omega arith)))
