use Rattle.plain.proofs.SameContentsLaws.{contents_decide}
use Rattle.plain.proofs.claims.contents_decide.Goals as goal

pub returns : goal.returns
returns c = contents_decide
