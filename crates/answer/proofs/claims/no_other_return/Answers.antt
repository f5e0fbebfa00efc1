use Rattle.constraint.proofs.AllowedLinesLaws.{no_other_return}
use Rattle.answer.proofs.AcceptsLaws.{accepts_exactly}
use Rattle.answer.proofs.claims.no_other_return.Goals as goal

pub returns : goal.returns
returns c = λ e xs sound distinct answer row k. no_other_return answer ((accepts_exactly e xs answer row sound distinct).0 k).allowed
