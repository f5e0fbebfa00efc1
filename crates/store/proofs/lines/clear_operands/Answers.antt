use Rattle.store.specs.Tables.{without_operands}
use Rattle.store.proofs.lines.clear_operands.Goals as goal

pub returns : goal.returns
unfolding without_operands
returns c = (c.put_head-4.ensures.0, rw (c.put_head-4.ensures.1, c.put_head-3.ensures.1, c.put_head-2.ensures.1, c.put_head.ensures.1))
