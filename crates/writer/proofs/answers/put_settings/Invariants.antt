use Prim.Native.Nat.{◌-◌}
use Rattle.printing.proofs.RowLaws.{Putting}
use Rattle.writer.proofs.SettingLaws.{setting_at}
use Rattle.writer.proofs.answers.put_settings.Given as goal

abbrev pub invariant-loop-i : goal.invariant-loop-i
invariant-loop-i l = Putting (setting_at l.file l.variables l.row) l.n l.initial.room l.at l.room l.i l.end

abbrev pub decreases-loop-i : goal.decreases-loop-i
decreases-loop-i l = l.n - l.i
