use mathlib.Core.Path.{◌∙◌}
use native.Mathlib.Omega.{arith}
use lib.ListN.{length-set}
use Rattle.index.proofs.TallyLaws.{one_more, added_none}
use Rattle.index.proofs.building.count_one.Goals as goal

pub overflow_add-counts : goal.overflow_add-counts
overflow_add-counts c = omega (arith, c.requires.1 c.if-i-lt-VARIABLES.true)

pub returns-then-i-lt-VARIABLES : goal.returns-then-i-lt-VARIABLES
returns-then-i-lt-VARIABLES c = (length-set c.args.counts.now c.args.i _ ∙ c.requires.0, λ q l. one_more c.args.counts.now c.args.i (omega arith) q)

pub returns-else-i-lt-VARIABLES : goal.returns-else-i-lt-VARIABLES
returns-else-i-lt-VARIABLES c = (c.requires.0, added_none c.args.counts.now c.args.i c.if-i-lt-VARIABLES.false)
