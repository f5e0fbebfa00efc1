use Rattle.store.specs.Tables.{operator_in}
use Rattle.store.proofs.lines.operator_of.Goals as goal

pub returns : goal.returns
unfolding operator_in
returns c = c.operator_by.ensures
