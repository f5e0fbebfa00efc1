use native.Mathlib.Omega.{arith}
use Prim.Native.Nat.{◌/◌}
use Rattle.printing.proofs.DigitLaws.{digits_count, count_one, count_step}
use Rattle.printing.proofs.+digit_count.Goals as goal

pub overflow_add-result : goal.overflow_add-result
overflow_add-result t c = omega (arith, digits_count (c.args.v / 10))

pub returns-then-v-lt10 : goal.returns-then-v-lt10
returns-then-v-lt10 t c = count_one _ c.if-v-lt10.true

pub returns : goal.returns
returns t c = omega (arith, count_step c.args.v c.ranges.v.fits c.if-v-lt10.false)
