use Rattle.moves.proofs.DemandLaws.{not_idle}
use Rattle.moves.proofs.claims.not_idle.Goals as goal

pub returns : goal.returns
returns c = not_idle
