use Rattle.clean.proofs.ClaimLaws.{never_longer}
use Rattle.clean.proofs.claims.never_longer.Goals as goal

pub returns : goal.returns
returns c = never_longer
