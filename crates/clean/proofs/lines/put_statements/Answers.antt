use native.Mathlib.Omega.{arith}
use Rattle.edition.specs.Edition.{edition10}
use Rattle.store.specs.Tables.{variables_in}
use Rattle.printing.proofs.RowLaws.{putting_starts, putting_room, putting_more, putting_done}
use Rattle.clean.proofs.LineLaws.{statements_are}
use Rattle.clean.proofs.lines.put_statements.Goals as goal

pub loop-k-init : goal.loop-k-init
loop-k-init c = putting_starts _ _ _ _

pub put_statement-end-requires : goal.put_statement-end-requires
put_statement-end-requires c = let h = c.loop-k-test.true in
    (c.requires.0, c.requires.1, c.requires.2, omega (arith, c.requires.3), c.requires.4 c.loop-k.k h, putting_room c.loop-k.invariant (rw (statements_are edition10 (variables_in c.args.file.now c.args.variables.now c.args.n) c.args.heads.now c.args.bodies.now c.args.m) at c.requires.5) h)

pub loop-k-preserved : goal.loop-k-preserved
loop-k-preserved c = putting_more c.loop-k.invariant (rw (statements_are edition10 (variables_in c.args.file.now c.args.variables.now c.args.n) c.args.heads.now c.args.bodies.now c.args.m) at c.requires.5) c.loop-k-test.true c.put_statement-end.auto.room c.put_statement-end.ensures

pub shape_of-room : goal.shape_of-room
shape_of-room c = c.loop-k.invariant.whole

pub returns : goal.returns
returns c = rw (statements_are edition10 (variables_in c.args.file.now c.args.variables.now c.args.n) c.args.heads.now c.args.bodies.now c.args.m) (putting_done c.loop-k.invariant c.loop-k-test.false)
