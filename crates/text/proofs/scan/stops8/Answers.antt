use native.Mathlib.Omega.{arith}
use Rattle.text.proofs.StopLaws.{stops_add}
use Rattle.text.proofs.scan.stops8.Goals as goal

pub returns : goal.returns
returns c = let one = c.stops4.ensures in
    let two = c.stops4-2.ensures in
    (rw (one.0, two.0) (stops_add c.args.text.now 4 c.args.at 4 c.requires), omega (arith, one.1, two.1))
