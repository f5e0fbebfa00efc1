use Prim.Native.Nat.{◌-◌, ◌≤◌}
use mathlib.Core.Path.{◌≡◌}
use lib.Dec.{ltb}
use lib.ListN.{length, drop}
use Rattle.refusal.specs.Lists.{first_from}
use Rattle.judge.specs.Judge.{verdict_disregarded}
use Rattle.moves.proofs.admission.first_above.Given as goal

-- `first_above` meets its contract. The loop's invariant: the first byte that is no verdict is the first of those that are left.
abbrev pub invariant-loop-k : goal.invariant-loop-k
invariant-loop-k l = (l.k ≤ length l.verdicts) × (first_from (ltb verdict_disregarded) l.k (drop l.k l.verdicts) ≡ first_from (ltb verdict_disregarded) 0 l.verdicts)

abbrev pub decreases-loop-k : goal.decreases-loop-k
decreases-loop-k l = length l.verdicts - l.k
