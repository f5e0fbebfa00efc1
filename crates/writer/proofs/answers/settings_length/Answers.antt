use Prim.Native.Nat.{◌+◌}
use native.Mathlib.Omega.{arith}
use Rattle.writer.proofs.LoopLaws.{Measuring, measuring_starts, measuring_more, measuring_done}
use Rattle.writer.proofs.SettingLaws.{settings_are}
use Rattle.writer.proofs.answers.settings_length.Goals as goal

pub loop-i-init : goal.loop-i-init
loop-i-init c = measuring_starts _ _ _ _

pub overflow_add-length : goal.overflow_add-length
overflow_add-length c =
    let more : (let a = c.args in Measuring a.file.now a.variables.now a.row.now a.n (c.loop-i.i + 1) (c.loop-i.length + c.setting_length-length.result)) = measuring_more c.loop-i.invariant c.requires.0 c.loop-i-test.true c.setting_length-length.ensures in
    omega (arith, more.bounded)

pub loop-i-preserved : goal.loop-i-preserved
loop-i-preserved c =
    let more : (let a = c.args in Measuring a.file.now a.variables.now a.row.now a.n (c.loop-i.i + 1) (c.loop-i.length + c.setting_length-length.result)) = measuring_more c.loop-i.invariant c.requires.0 c.loop-i-test.true c.setting_length-length.ensures in
    more

pub returns : goal.returns
returns c = let a = c.args in
    let all = settings_are a.file.now a.variables.now a.row.now a.n (omega (arith, c.requires.2)) in
    (rw all (measuring_done c.loop-i.invariant c.loop-i-test.false), omega arith)
