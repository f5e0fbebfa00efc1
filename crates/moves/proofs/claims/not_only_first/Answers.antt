use Rattle.moves.proofs.DemandLaws.{not_only_first}
use Rattle.moves.proofs.claims.not_only_first.Goals as goal

pub returns : goal.returns
returns c = not_only_first
