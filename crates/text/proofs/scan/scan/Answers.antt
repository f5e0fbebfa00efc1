use Rattle.text.proofs.ScanLaws.{scan_starts, scan_steps, scan_stops, scan_ends}
use Rattle.text.proofs.scan.scan.Goals as goal

pub loop-i-init : goal.loop-i-init
loop-i-init c = scan_starts c.requires

pub loop-i-preserved : goal.loop-i-preserved
loop-i-preserved c = scan_steps c.loop-i.invariant c.loop-i-test.true c.is_of.ensures c.if-is_of.true

pub returns-else-is_of : goal.returns-else-is_of
returns-else-is_of c = scan_stops c.loop-i.invariant c.loop-i-test.true c.is_of.ensures c.if-is_of.false

pub returns : goal.returns
returns c = scan_ends c.loop-i.invariant c.loop-i-test.false
