use Rattle.std.proofs.Common.{sym}
use Rattle.arithmetic.proofs.PlaceLaws.{inverted_is}
use Rattle.evaluation.proofs.bits.invert.Goals as goal

pub returns : goal.returns
returns c = rw c.mask.ensures (sym (inverted_is c.args.k c.args.a c.requires.bound))
