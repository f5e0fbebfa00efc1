use Rattle.moves.proofs.TouchLaws.{touches_no_other}
use Rattle.moves.proofs.claims.touches_no_other.Goals as goal

pub returns : goal.returns
returns c = touches_no_other
