use borrow.Author.Rules.{rules}
use Rattle.store.specs.Tables.{name_length}
use Rattle.store.proofs.variables.name_length.Goals as goal

pub returns : goal.returns
unfolding name_length
returns c = search rules
