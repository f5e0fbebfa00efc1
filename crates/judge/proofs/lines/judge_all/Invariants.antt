use Prim.Native.Nat.{◌-◌, ◌≤◌}
use mathlib.Core.Path.{◌≡◌}
use mathlib.Core.List.{List, ◌++◌}
use lib.ListN.{length, drop}
use Rattle.constraint.specs.File.{Variable}
use Rattle.store.specs.Tables.{lines_in, AllHeadsFit}
use Rattle.judge.specs.Judge.{verdicts_of, results_of}
use Rattle.judge.proofs.lines.judge_all.Given as goal

-- `judge_all` meets its contract. The loop's invariant: the verdicts and the results of the first i lines are put down, and what is behind them is as it was.
abbrev pub invariant-loop-i : goal.invariant-loop-i
invariant-loop-i l = (l.i ≤ l.m) × (length l.verdicts ≡ length l.initial.verdicts) × (length l.results ≡ length l.initial.results) × ((xs : List Variable) → AllHeadsFit xs l.heads l.bodies l.m → (l.verdicts ≡ verdicts_of xs l.row (lines_in l.heads l.bodies l.i) ++ drop l.i l.initial.verdicts) × (l.results ≡ results_of xs l.row (lines_in l.heads l.bodies l.i) ++ drop l.i l.initial.results))

abbrev pub decreases-loop-i : goal.decreases-loop-i
decreases-loop-i l = l.m - l.i
