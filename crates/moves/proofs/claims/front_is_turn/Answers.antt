use Rattle.moves.proofs.WholeLaws.{front_is_turn}
use Rattle.moves.proofs.claims.front_is_turn.Goals as goal

pub returns : goal.returns
returns c = front_is_turn
