use mathlib.Core.Path.{ap}
use Rattle.spear.specs.Pack.{packed_write}
use Rattle.spear.proofs.spear_clean.Goals as goal

pub returns : goal.returns
returns c = rw c.pack_count.ensures (ap packed_write c.clean.ensures)
