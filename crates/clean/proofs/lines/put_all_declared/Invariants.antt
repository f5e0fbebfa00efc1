use Prim.Native.Nat.{◌-◌}
use Rattle.printing.proofs.RowLaws.{Putting}
use Rattle.clean.proofs.LineLaws.{declaration_at}
use Rattle.clean.proofs.lines.put_all_declared.Given as goal

abbrev pub invariant-loop-i : goal.invariant-loop-i
invariant-loop-i l = Putting (declaration_at l.file l.variables) l.n l.initial.room l.at l.room l.i l.end

abbrev pub decreases-loop-i : goal.decreases-loop-i
decreases-loop-i l = l.n - l.i
