use native.Mathlib.Omega.{arith}
use Rattle.printing.proofs.DigitLaws.{count_one, count_step, put_one_digit, put_last_digit}
use Rattle.printing.proofs.+put_digits.Goals as goal

pub put_byte-requires : goal.put_byte-requires
put_byte-requires t c = omega (arith, count_one c.args.v c.if-v-lt10.true)

pub returns-then-v-lt10 : goal.returns-then-v-lt10
returns-then-v-lt10 t c = put_one_digit _ c.if-v-lt10.true c.put_byte.ensures

pub put_digits-last-requires : goal.put_digits-last-requires
put_digits-last-requires t c = (omega arith, omega (arith, count_step c.args.v c.ranges.v.fits c.if-v-lt10.false))

pub put_byte-requires-2 : goal.put_byte-requires-2
put_byte-requires-2 t c = omega (arith, count_step c.args.v c.ranges.v.fits c.if-v-lt10.false)

pub returns : goal.returns
returns t c = put_last_digit c.args.v c.ranges.v.fits c.if-v-lt10.false c.requires c.put_digits-last.ensures c.put_byte-2.ensures
