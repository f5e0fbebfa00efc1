use Rattle.index.proofs.NamesLaws.{names_by}
use Rattle.index.proofs.naming.names.Goals as goal

pub returns : goal.returns
returns c = names_by _ _ _ _ c.named_at-a.ensures c.named_at-b.ensures c.named_at-c.ensures c.named_at-d.ensures
