use Rattle.clean.proofs.ClaimLaws.{same_verdicts}
use Rattle.clean.proofs.claims.same_verdicts.Goals as goal

pub returns : goal.returns
returns c = same_verdicts
