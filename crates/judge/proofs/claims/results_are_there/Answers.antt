use Rattle.judge.proofs.ResultLaws.{results_are_there}
use Rattle.judge.proofs.claims.results_are_there.Goals as goal

pub returns : goal.returns
returns c = results_are_there
