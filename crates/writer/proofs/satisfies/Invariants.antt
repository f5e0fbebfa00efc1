use Prim.Native.Nat.{◌-◌, ◌≤◌}
use mathlib.Core.List.{List}
use Rattle.constraint.specs.File.{Variable}
use Rattle.constraint.specs.Sound.{Each}
use Rattle.store.specs.Tables.{lines_in, AllHeadsFit}
use Rattle.judge.proofs.OverallLaws.{LineHolds}
use Rattle.writer.proofs.satisfies.Given as goal

-- `satisfies` meets its contract. The loop's invariant: the first k lines hold.
abbrev pub invariant-loop-k : goal.invariant-loop-k
invariant-loop-k l = (l.k ≤ l.m) × ((xs : List Variable) → AllHeadsFit xs l.heads l.bodies l.m → Each (LineHolds xs l.row) (lines_in l.heads l.bodies l.k))

abbrev pub decreases-loop-k : goal.decreases-loop-k
decreases-loop-k l = l.m - l.k
