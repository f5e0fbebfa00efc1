use Rattle.text.specs.Scan.{is_of}
use Rattle.text.proofs.ScanLaws.{scan_starts, scan_steps, scan_stops, scan_ends}
use Rattle.text.proofs.scan.spaces.Goals as goal

pub loop-i-init : goal.loop-i-init
loop-i-init c = scan_starts c.requires

pub loop-i-preserved : goal.loop-i-preserved
unfolding is_of
loop-i-preserved c = scan_steps c.loop-i.invariant c.loop-i-test.true c.is_space.ensures c.if-is_space.true

pub returns-else-is_space : goal.returns-else-is_space
unfolding is_of
returns-else-is_space c = scan_stops c.loop-i.invariant c.loop-i-test.true c.is_space.ensures c.if-is_space.false

pub returns : goal.returns
returns c = scan_ends c.loop-i.invariant c.loop-i-test.false
