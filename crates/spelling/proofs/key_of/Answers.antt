use Rattle.std.proofs.Common.{rules}
use Rattle.spelling.specs.Internal.{key_of}
use Rattle.spelling.proofs.key_of.Goals as goal

pub returns : goal.returns
unfolding key_of
returns c = (rw c.min-second.ensures, search rules)
