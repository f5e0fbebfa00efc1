use Rattle.clean.proofs.ClaimLaws.{reads_back}
use Rattle.clean.proofs.claims.reads_back.Goals as goal

pub returns : goal.returns
returns c = reads_back
