use Rattle.moves.proofs.WholeLaws.{as_fresh_check}
use Rattle.moves.proofs.claims.as_fresh_check.Goals as goal

pub returns : goal.returns
returns c = as_fresh_check
