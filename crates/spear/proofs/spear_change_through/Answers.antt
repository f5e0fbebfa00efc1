use mathlib.Core.Path.{ap}
use Rattle.spear.specs.Pack.{packed_change}
use Rattle.spear.proofs.spear_change_through.Goals as goal

pub returns : goal.returns
returns c = rw c.pack_change.ensures (ap packed_change c.change_through.ensures)
