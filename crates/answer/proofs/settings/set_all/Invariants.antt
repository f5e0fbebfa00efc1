use Prim.Native.Nat.{◌-◌}
use lib.ListN.{length}
use Rattle.store.specs.Tables.{variables_in}
use Rattle.answer.proofs.ValueLaws.{Storing}
use Rattle.answer.proofs.settings.set_all.Given as goal

abbrev pub invariant-loop-i : goal.invariant-loop-i
invariant-loop-i l = Storing (variables_in l.file l.variables l.n) l.n l.line l.at l.initial.settings l.settings l.i

abbrev pub decreases-loop-i : goal.decreases-loop-i
decreases-loop-i l = length l.line - l.i
