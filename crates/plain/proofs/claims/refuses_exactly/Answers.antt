use Rattle.plain.proofs.SaysLaws.{refuses_exactly}
use Rattle.plain.proofs.claims.refuses_exactly.Goals as goal

pub returns : goal.returns
returns c = refuses_exactly
