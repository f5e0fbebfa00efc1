use Rattle.store.specs.Tables.{with_body}
use borrow.Author.Rules.{rules}
use Rattle.store.proofs.lines.put_body.Goals as goal

pub returns : goal.returns
unfolding with_body
returns c = search rules
