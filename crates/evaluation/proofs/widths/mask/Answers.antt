use Rattle.arithmetic.proofs.Powers.{ones_shr}
use Rattle.evaluation.proofs.widths.mask.Goals as goal

pub returns : goal.returns
returns c = ones_shr c.args.k c.requires.most
