use Rattle.printing.proofs.RowLaws.{putting_starts, putting_room, putting_more, putting_done}
use Rattle.clean.proofs.LineLaws.{declarations_are}
use Rattle.clean.proofs.lines.put_all_declared.Goals as goal

pub loop-i-init : goal.loop-i-init
loop-i-init c = putting_starts _ _ _ _

pub put_declaration-end-requires : goal.put_declaration-end-requires
put_declaration-end-requires c = let h = c.loop-i-test.true in
    (c.requires.1 c.loop-i.i h, putting_room c.loop-i.invariant (rw (declarations_are c.args.file.now c.args.variables.now c.args.n) at c.requires.2) h)

pub loop-i-preserved : goal.loop-i-preserved
loop-i-preserved c = putting_more c.loop-i.invariant (rw (declarations_are c.args.file.now c.args.variables.now c.args.n) at c.requires.2) c.loop-i-test.true c.put_declaration-end.auto.room c.put_declaration-end.ensures

pub shape_of-room : goal.shape_of-room
shape_of-room c = c.loop-i.invariant.whole

pub returns : goal.returns
returns c = rw (declarations_are c.args.file.now c.args.variables.now c.args.n) (putting_done c.loop-i.invariant c.loop-i-test.false)
