use Prim.Native.Nat.{◌-◌, ◌≤◌}
use Rattle.index.proofs.TallyLaws.{Summed}
use Rattle.index.proofs.building.accumulate.Given as goal

-- `accumulate` meets its contract. The loop's invariant: the first i counts are turned into sums, and those behind them are as they were.
abbrev pub invariant-loop-i : goal.invariant-loop-i
invariant-loop-i l = (l.i ≤ l.n) × Summed l.initial.counts l.i l.counts l.end

abbrev pub decreases-loop-i : goal.decreases-loop-i
decreases-loop-i l = l.n - l.i
