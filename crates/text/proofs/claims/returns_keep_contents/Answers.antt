use Rattle.text.proofs.EndingLaws.{returns_keep_contents}
use Rattle.text.proofs.claims.returns_keep_contents.Goals as goal

pub returns : goal.returns
returns c = returns_keep_contents
