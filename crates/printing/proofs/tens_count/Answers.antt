use mathlib.Core.Path.{sym}
use Rattle.printing.proofs.DigitLaws.{count_one, count_two}
use Rattle.printing.proofs.tens_count.Goals as goal

pub returns-then-v-lt10 : goal.returns-then-v-lt10
returns-then-v-lt10 c = sym (count_one c.args.v c.if-v-lt10.true)

pub returns-else-v-lt10 : goal.returns-else-v-lt10
returns-else-v-lt10 c = count_two c.args.v c.requires c.if-v-lt10.false
