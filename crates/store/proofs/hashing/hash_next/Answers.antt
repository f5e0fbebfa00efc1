use Rattle.store.specs.Hash.{hash_next}
use borrow.Author.Rules.{rules}
use Rattle.store.proofs.hashing.hash_next.Goals as goal

pub returns : goal.returns
unfolding hash_next
returns c = search rules
