use borrow.Author.Rules.{rules}
use Rattle.store.specs.Tables.{next_entry}
use Rattle.store.proofs.variables.next_entry.Goals as goal

pub returns : goal.returns
unfolding next_entry
returns c = search rules
