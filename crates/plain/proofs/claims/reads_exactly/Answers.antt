use Rattle.plain.proofs.SaysLaws.{reads_exactly}
use Rattle.plain.proofs.claims.reads_exactly.Goals as goal

pub returns : goal.returns
returns c = reads_exactly
