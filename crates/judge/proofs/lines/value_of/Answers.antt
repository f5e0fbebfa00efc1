use mathlib.Core.Path.{sym}
use lib.ListN.{get_or-eq_default}
use Rattle.judge.proofs.lines.value_of.Goals as goal

pub returns-else-i-row : goal.returns-else-i-row
returns-else-i-row c = sym (get_or-eq_default c.args.row.now 0 c.if-i-row.false)
