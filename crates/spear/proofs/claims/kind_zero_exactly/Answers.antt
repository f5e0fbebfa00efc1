use Rattle.spear.proofs.CodeLaws.{kind_zero_exactly}
use Rattle.spear.proofs.claims.kind_zero_exactly.Goals as goal

pub returns : goal.returns
returns c = kind_zero_exactly
