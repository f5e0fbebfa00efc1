use borrow.Author.Rules.{rules}
use Rattle.store.specs.Tables.{name_start}
use Rattle.store.proofs.variables.name_start.Goals as goal

pub returns : goal.returns
unfolding name_start
returns c = search rules
