use Rattle.arithmetic.proofs.ResultLaws.{results_fit}
use Rattle.arithmetic.proofs.claims.results_fit.Goals as goal

pub returns : goal.returns
returns c = results_fit
