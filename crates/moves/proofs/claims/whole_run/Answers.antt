use Rattle.moves.proofs.WholeLaws.{whole_run}
use Rattle.moves.proofs.claims.whole_run.Goals as goal

pub returns : goal.returns
returns c = whole_run
