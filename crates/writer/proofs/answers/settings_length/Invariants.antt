use Prim.Native.Nat.{◌-◌}
use Rattle.writer.proofs.LoopLaws.{Measuring}
use Rattle.writer.proofs.answers.settings_length.Given as goal

abbrev pub invariant-loop-i : goal.invariant-loop-i
invariant-loop-i l = Measuring l.file l.variables l.row l.n l.i l.length

abbrev pub decreases-loop-i : goal.decreases-loop-i
decreases-loop-i l = l.n - l.i
