use mathlib.Core.Path.{ap}
use native.Mathlib.Omega.{arith}
use lib.ListN.{length}
use Rattle.printing.proofs.PartLaws.{part_bytes}
use Rattle.printing.proofs.parts.put_part.Goals as goal

pub put_bytes-requires : goal.put_bytes-requires
put_bytes-requires c = omega (arith, c.requires, ap length (part_bytes c.part-name.ensures))

pub returns : goal.returns
returns c = rw (part_bytes c.part-name.ensures) at c.put_bytes.ensures
