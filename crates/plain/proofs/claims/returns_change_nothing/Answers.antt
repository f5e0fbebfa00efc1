use Rattle.text.proofs.EndingLaws.{returns_change_nothing}
use Rattle.constraint.specs.Read.{read_file}
use Rattle.plain.proofs.SameContentsLaws.{contents_decide}
use Rattle.plain.proofs.claims.returns_change_nothing.Goals as goal

pub returns : goal.returns
returns c = returns_change_nothing read_file contents_decide
