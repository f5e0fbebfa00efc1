use Prim.Native.Nat.{◌+◌, ◌-◌, ◌≤◌}
use mathlib.Core.Path.{◌≡◌}
use lib.Dec.{eqb}
use lib.ListN.{length, drop}
use Rattle.refusal.specs.Lists.{first_from}
use Rattle.judge.specs.Judge.{first_verdict}
use Rattle.judge.proofs.verdicts.first_verdict.Given as goal

-- `first_verdict` meets its contract: there is none, or the loop finds it. The loop's invariant: the first verdict v is the first of those that are left.
abbrev pub invariant-loop-i : goal.invariant-loop-i
invariant-loop-i l = (l.i ≤ length l.verdicts) × (first_from (eqb l.v) (l.i + 1) (drop l.i l.verdicts) ≡ first_verdict l.v l.verdicts)

abbrev pub decreases-loop-i : goal.decreases-loop-i
decreases-loop-i l = length l.verdicts - l.i
