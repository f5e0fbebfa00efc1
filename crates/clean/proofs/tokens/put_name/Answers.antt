use Rattle.store.proofs.VariableTableLaws.{name_held, name_none}
use Rattle.printing.proofs.PlaceLaws.{put_none}
use Rattle.clean.proofs.tokens.put_name.Goals as goal

pub put_part-requires : goal.put_part-requires
put_part-requires c = let a = c.args in
    rw (c.name_length.ensures, c.name_start.ensures) (rw (name_held a.file.now a.variables.now a.n a.i c.if-k-n.true) at c.requires.1)

pub returns-then-k-n : goal.returns-then-k-n
returns-then-k-n c = let a = c.args in
    rw (name_held a.file.now a.variables.now a.n a.i c.if-k-n.true) (rw (c.name_length.ensures, c.name_start.ensures) at c.put_part.ensures)

pub returns-else-k-n : goal.returns-else-k-n
returns-else-k-n c = let a = c.args in
    rw (name_none a.file.now a.variables.now a.n a.i c.if-k-n.false) (put_none a.room.now a.at)
