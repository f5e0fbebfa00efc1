use Rattle.spear.proofs.CodeLaws.{zero_exactly}
use Rattle.spear.proofs.claims.zero_exactly.Goals as goal

pub returns : goal.returns
returns c = zero_exactly
