use Rattle.clean.proofs.ClaimLaws.{clean_again}
use Rattle.clean.proofs.claims.clean_again.Goals as goal

pub returns : goal.returns
returns c = clean_again
