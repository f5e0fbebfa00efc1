use mathlib.Core.Path.{ap}
use Rattle.spear.specs.Pack.{packed_check}
use Rattle.spear.proofs.spear_check_tables.Goals as goal

pub returns : goal.returns
returns c = rw c.pack_check.ensures (ap packed_check c.check.ensures)
