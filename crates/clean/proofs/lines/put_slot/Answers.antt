use Rattle.store.specs.Tables.{operand_in}
use Rattle.clean.proofs.lines.put_slot.Goals as goal

pub put_operand-requires : goal.put_operand-requires
unfolding operand_in
put_operand-requires c = rw (c.head_of-head.ensures, c.body_of-body.ensures) (c.requires.0, c.requires.5 c.args.slot c.requires.4, c.requires.6)

pub returns : goal.returns
unfolding operand_in
returns c = rw (c.head_of-head.ensures, c.body_of-body.ensures) at c.put_operand.ensures
