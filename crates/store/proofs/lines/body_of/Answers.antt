use Rattle.store.specs.Tables.{body_at}
use borrow.Author.Rules.{rules}
use Rattle.store.proofs.lines.body_of.Goals as goal

pub returns : goal.returns
unfolding body_at
returns c = search rules
