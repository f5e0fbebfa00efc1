use Rattle.answer.proofs.AcceptsLaws.{accepts_exactly}
use Rattle.answer.proofs.claims.accepts_exactly.Goals as goal

pub returns : goal.returns
returns c = accepts_exactly
