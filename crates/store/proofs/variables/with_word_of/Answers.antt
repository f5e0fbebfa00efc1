use Rattle.store.specs.Tables.{with_word_of}
use borrow.Author.Rules.{rules}
use Rattle.store.proofs.variables.with_word_of.Goals as goal

pub returns : goal.returns
unfolding with_word_of
returns c = search rules
