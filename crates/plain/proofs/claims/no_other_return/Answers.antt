use Rattle.constraint.proofs.AllowedLinesLaws.{no_other_return}
use Rattle.plain.proofs.SaysLaws.{reads_exactly}
use Rattle.plain.proofs.claims.no_other_return.Goals as goal

pub returns : goal.returns
returns c = λ bytes f e. no_other_return bytes ((reads_exactly bytes f).0 e).allowed
