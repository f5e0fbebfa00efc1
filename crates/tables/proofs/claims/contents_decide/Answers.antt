use Rattle.tables.proofs.SameContentsLaws.{contents_decide}
use Rattle.tables.proofs.claims.contents_decide.Goals as goal

pub returns : goal.returns
returns c = contents_decide
