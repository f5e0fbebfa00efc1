use native.Mathlib.Omega.{arith}
use Rattle.text.proofs.StopLaws.{stops_add}
use Rattle.text.proofs.scan.stops4.Goals as goal

pub returns : goal.returns
returns c = let one = c.stops2.ensures in
    let two = c.stops2-2.ensures in
    (rw (one.0, two.0) (stops_add c.args.text.now 2 c.args.at 2 c.requires), omega (arith, one.1, two.1))
