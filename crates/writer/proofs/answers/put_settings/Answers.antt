use native.Mathlib.Omega.{arith}
use Rattle.printing.proofs.RowLaws.{putting_starts, putting_room, putting_more, putting_done}
use Rattle.writer.proofs.SettingLaws.{settings_are}
use Rattle.writer.proofs.answers.put_settings.Goals as goal

pub loop-i-init : goal.loop-i-init
loop-i-init c = putting_starts _ _ _ _

pub put_setting-end-requires : goal.put_setting-end-requires
put_setting-end-requires c = let a = c.args in
    let all = settings_are a.file.now a.variables.now a.row.now a.n (omega (arith, c.requires.1)) in
    putting_room c.loop-i.invariant (rw all at c.requires.2) c.loop-i-test.true

pub loop-i-preserved : goal.loop-i-preserved
loop-i-preserved c = let a = c.args in
    let all = settings_are a.file.now a.variables.now a.row.now a.n (omega (arith, c.requires.1)) in
    putting_more c.loop-i.invariant (rw all at c.requires.2) c.loop-i-test.true c.put_setting-end.auto.room c.put_setting-end.ensures

pub shape_of-room : goal.shape_of-room
shape_of-room c = c.loop-i.invariant.whole

pub returns : goal.returns
returns c = let a = c.args in
    let all = settings_are a.file.now a.variables.now a.row.now a.n (omega (arith, c.requires.1)) in
    rw all (putting_done c.loop-i.invariant c.loop-i-test.false)
