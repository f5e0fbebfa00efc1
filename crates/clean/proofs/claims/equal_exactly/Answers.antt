use Rattle.clean.proofs.ClaimLaws.{equal_exactly}
use Rattle.clean.proofs.claims.equal_exactly.Goals as goal

pub returns : goal.returns
returns c = equal_exactly
