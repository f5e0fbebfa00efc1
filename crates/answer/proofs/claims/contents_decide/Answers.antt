use Rattle.answer.proofs.SameContentsLaws.{contents_decide}
use Rattle.answer.proofs.claims.contents_decide.Goals as goal

pub returns : goal.returns
returns c = contents_decide
