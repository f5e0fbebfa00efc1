use Rattle.text.proofs.EndingLaws.{returns_change_nothing}
use Rattle.answer.specs.Read.{read_answer}
use Rattle.answer.proofs.SameContentsLaws.{contents_decide}
use Rattle.answer.proofs.claims.returns_change_nothing.Goals as goal

pub returns : goal.returns
returns c = λ e xs sound distinct. returns_change_nothing (read_answer xs) (contents_decide e xs sound distinct)
