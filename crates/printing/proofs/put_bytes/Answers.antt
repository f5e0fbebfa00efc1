use Rattle.printing.proofs.PlaceLaws.{copying_starts, copying_more, copying_done}
use Rattle.printing.proofs.put_bytes.Goals as goal

pub loop-i-init : goal.loop-i-init
loop-i-init c = copying_starts _ _ _

pub loop-i-preserved : goal.loop-i-preserved
loop-i-preserved c = copying_more c.loop-i.invariant c.requires c.loop-i-test.true

pub shape_of-room : goal.shape_of-room
shape_of-room c = c.loop-i.invariant.whole

pub returns : goal.returns
returns c = copying_done c.loop-i.invariant c.loop-i-test.false
