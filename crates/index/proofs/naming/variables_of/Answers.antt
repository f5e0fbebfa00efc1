use Rattle.index.proofs.NamesLaws.{named_once}
use Rattle.index.proofs.naming.variables_of.Goals as goal

pub returns : goal.returns
returns c i h = rw (c.unless.ensures, c.unless-2.ensures, c.unless-3.ensures) (named_once i _ _ _ _ h _ _ _ (c.variable_at-a.ensures i h) (c.variable_at-b.ensures i h) (c.variable_at-c.ensures i h) (c.variable_at-d.ensures i h))
