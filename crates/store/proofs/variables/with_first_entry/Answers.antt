use Rattle.store.specs.Tables.{with_first_entry}
use borrow.Author.Rules.{rules}
use Rattle.store.proofs.variables.with_first_entry.Goals as goal

pub returns : goal.returns
unfolding with_first_entry
returns c = search rules
