use Prim.Native.Nat.{◌+◌, ◌-◌, ◌≤◌}
use mathlib.Core.Path.{◌≡◌}
use mathlib.Core.Bool.{◌||◌}
use lib.Dec.{eqb}
use lib.ListN.{length, drop}
use Rattle.std.specs.Prelude.{is_some}
use Rattle.refusal.specs.Lists.{first_from}
use Rattle.judge.specs.Judge.{first_verdict}
use Rattle.judge.proofs.verdicts.has_verdict.Given as goal

-- `has_verdict` meets its contract. The loop's invariant: there is a verdict v where it was found, or among those that are left.
abbrev pub invariant-loop-i : goal.invariant-loop-i
invariant-loop-i l = (l.i ≤ length l.verdicts) × ((l.found || is_some (first_from (eqb l.v) (l.i + 1) (drop l.i l.verdicts))) ≡ is_some (first_verdict l.v l.verdicts))

abbrev pub decreases-loop-i : goal.decreases-loop-i
decreases-loop-i l = length l.verdicts - l.i
