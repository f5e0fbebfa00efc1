use Prim.Native.Nat.{◌-◌, ◌≤◌}
use Rattle.index.proofs.FillLaws.{Filled}
use Rattle.index.proofs.building.list_all.Given as goal

-- `list_all` meets its contract. The loop's invariant: the lists are filled as far as the first k lines fill them.
abbrev pub invariant-loop-k : goal.invariant-loop-k
invariant-loop-k l = (l.k ≤ l.m) × Filled l.heads l.bodies l.n l.m l.initial.lists l.k l.next l.lists

abbrev pub decreases-loop-k : goal.decreases-loop-k
decreases-loop-k l = l.m - l.k
