use Rattle.store.specs.Tables.{head_at}
use borrow.Author.Rules.{rules}
use Rattle.store.proofs.lines.head_of.Goals as goal

pub returns : goal.returns
unfolding head_at
returns c = search rules
