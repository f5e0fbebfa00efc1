use lib.Bits.{and_mask}
use Rattle.evaluation.proofs.widths.low.Goals as goal

pub returns : goal.returns
returns c = rw c.mask.ensures (and_mask c.args.x c.args.k)
