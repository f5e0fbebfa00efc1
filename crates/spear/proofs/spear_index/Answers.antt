use mathlib.Core.Path.{ap}
use Rattle.spear.specs.Pack.{packed_index}
use Rattle.spear.proofs.spear_index.Goals as goal

pub returns : goal.returns
returns c = rw c.pack_count.ensures (ap packed_index c.index.ensures)
