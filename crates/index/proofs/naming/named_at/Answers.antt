use Rattle.index.proofs.NamesLaws.{named_at}
use Rattle.index.proofs.naming.named_at.Goals as goal

pub returns : goal.returns
returns c = rw (c.body_of-j.ensures, c.is_variable-variable.ensures, c.head_of.ensures) (named_at _ _ _ _ _)
