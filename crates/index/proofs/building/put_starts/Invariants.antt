use Prim.Native.Nat.{◌-◌, ◌≤◌}
use mathlib.Core.Path.{◌≡◌}
use mathlib.Core.List.{◌++◌}
use lib.ListN.{length, take, drop}
use Rattle.index.proofs.building.put_starts.Given as goal

-- `put_starts` meets its contract. The loop's invariant: the first i numbers stand in front of the table.
abbrev pub invariant-loop-i : goal.invariant-loop-i
invariant-loop-i l = (l.i ≤ l.n) × (length l.starts ≡ length l.initial.starts) × (l.starts ≡ take l.i l.firsts ++ drop l.i l.initial.starts)

abbrev pub decreases-loop-i : goal.decreases-loop-i
decreases-loop-i l = l.n - l.i
