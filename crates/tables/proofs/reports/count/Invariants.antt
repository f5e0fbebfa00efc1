use Prim.Native.Nat.{◌+◌, ◌-◌, ◌≤◌}
use mathlib.Core.Path.{◌≡◌}
use lib.Dec.{eqb}
use lib.ListN.{length, drop}
use Rattle.refusal.specs.Lists.{how_many}
use Rattle.tables.proofs.reports.count.Given as goal

-- `count` meets its contract. The loop's invariant: with how many are left, those counted are all.
abbrev pub invariant-loop-i : goal.invariant-loop-i
invariant-loop-i l = (l.i ≤ length l.verdicts) × (l.n ≤ l.i) × (l.n + how_many (eqb l.byte) (drop l.i l.verdicts) ≡ how_many (eqb l.byte) l.verdicts)

abbrev pub decreases-loop-i : goal.decreases-loop-i
decreases-loop-i l = length l.verdicts - l.i
