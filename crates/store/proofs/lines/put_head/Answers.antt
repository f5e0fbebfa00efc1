use Rattle.store.specs.Tables.{with_head}
use borrow.Author.Rules.{rules}
use Rattle.store.proofs.lines.put_head.Goals as goal

pub returns : goal.returns
unfolding with_head
returns c = search rules
