use native.Mathlib.Omega.{arith}
use Rattle.text.proofs.StopLaws.{stops_two}
use Rattle.text.proofs.scan.stops2.Goals as goal

pub returns : goal.returns
returns c = let one = c.stop_digit.ensures in
    let two = c.stop_digit-2.ensures in
    (rw (one.0, two.0) (stops_two c.args.text.now c.args.at c.requires), omega (arith, one.1, two.1))
