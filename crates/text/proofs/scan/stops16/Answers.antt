use Rattle.text.proofs.StopLaws.{stops_add}
use Rattle.text.proofs.scan.stops16.Goals as goal

pub returns : goal.returns
returns c = let one = c.stops8.ensures in
    let two = c.stops8-2.ensures in
    rw (one.0, two.0) (stops_add c.args.text.now 8 c.args.at 8 c.requires)
