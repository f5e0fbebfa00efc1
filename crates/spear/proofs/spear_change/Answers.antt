use mathlib.Core.Path.{ap}
use Rattle.spear.specs.Pack.{packed_change}
use Rattle.spear.proofs.spear_change.Goals as goal

pub returns : goal.returns
returns c = rw c.pack_change.ensures (ap packed_change c.change.ensures)
