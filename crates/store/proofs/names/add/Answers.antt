use Rattle.store.specs.Names.{with_name}
use Rattle.store.proofs.names.add.Goals as goal

pub returns : goal.returns
unfolding with_name
returns c = rw (c.with_first_entry.ensures, c.with_word_of.ensures, c.first_entry-first.ensures.0, c.bucket-b.ensures.0)
