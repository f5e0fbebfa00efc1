use Rattle.store.specs.Tables.{word_width}
use borrow.Author.Rules.{rules}
use Rattle.store.proofs.variables.word_width.Goals as goal

pub returns : goal.returns
unfolding word_width
returns c = search rules
