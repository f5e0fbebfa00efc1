use native.Mathlib.Omega.{arith}
use Rattle.printing.proofs.DigitLaws.{count_one, put_one_digit}
use Rattle.printing.proofs.put_number.Goals as goal

pub put_byte-requires : goal.put_byte-requires
put_byte-requires c = omega (arith, count_one c.args.v c.if-v-lt10.true)

pub returns-then-v-lt10 : goal.returns-then-v-lt10
returns-then-v-lt10 c = put_one_digit _ c.if-v-lt10.true c.put_byte.ensures
