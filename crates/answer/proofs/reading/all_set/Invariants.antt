use Prim.Native.Nat.{◌-◌, ◌≤◌}
use mathlib.Core.Path.{◌≡◌}
use Rattle.std.specs.Prelude.{Some}
use lib.ListN.{length, take}
use Rattle.answer.specs.Read.{all_set}
use Rattle.answer.proofs.reading.all_set.Given as goal

-- The first i variables are set, and their values are in the row.
abbrev pub invariant-loop-i : goal.invariant-loop-i
invariant-loop-i l = (l.i ≤ l.n) × (length l.row ≡ length l.initial.row) × (all_set (take l.i l.settings) ≡ Some (take l.i l.row))

abbrev pub decreases-loop-i : goal.decreases-loop-i
decreases-loop-i l = l.n - l.i
