use Rattle.tables.proofs.SatisfiedLaws.{satisfied_exactly}
use Rattle.tables.proofs.claims.satisfied_exactly.Goals as goal

pub returns : goal.returns
returns c = satisfied_exactly
