use Rattle.edition.specs.Edition.{edition_numbered}
use Rattle.declaration.proofs.header.edition_numbered.Goals as goal

pub returns-then-major-e : goal.returns-then-major-e
unfolding edition_numbered
returns-then-major-e c = rw (c.v1_0-e.ensures, rw c.v1_0-e.ensures at c.if-major-e.true)

pub returns-else-major-e : goal.returns-else-major-e
unfolding edition_numbered
returns-else-major-e c = rw (rw c.v1_0-e.ensures at c.if-major-e.false)
