use Prim.Native.Nat.{ℕ, ◌-◌, ◌≤◌, ◌<◌}
use mathlib.Core.Path.{◌≡◌}
use lib.ListN.{length, get_or}
use Rattle.edition.specs.Edition.{max_variables}
use Rattle.refusal.specs.Lists.{how_many}
use Rattle.store.specs.Tables.{lines_in}
use Rattle.index.specs.Select.{names}
use Rattle.index.proofs.building.count.Given as goal

-- `count` meets its contract. The loop's invariant: the counts are those of the first k lines.
abbrev pub invariant-loop-k : goal.invariant-loop-k
invariant-loop-k l = (l.k ≤ l.m) × (length l.counts ≡ max_variables) × ((q : ℕ) → q < max_variables → get_or l.counts q 0 ≡ how_many (names q) (lines_in l.heads l.bodies l.k))

abbrev pub decreases-loop-k : goal.decreases-loop-k
decreases-loop-k l = l.m - l.k
