use Rattle.spelling.proofs.ReservedLaws.{reserved_exactly}
use Rattle.spelling.proofs.claims.reserved_exactly.Goals as goal

pub returns : goal.returns
returns c = reserved_exactly
