use Rattle.moves.proofs.ThroughLaws.{own_index_same}
use Rattle.moves.proofs.claims.own_index_same.Goals as goal

pub returns : goal.returns
returns c = own_index_same
