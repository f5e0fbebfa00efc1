use Prim.Native.Nat.{◌-◌, ◌≤◌}
use mathlib.Core.Path.{◌≡◌}
use mathlib.Core.List.{List}
use lib.ListN.{length}
use Rattle.constraint.specs.File.{Variable}
use Rattle.store.specs.Tables.{AllHeadsFit}
use Rattle.moves.specs.Internal.{columns_of}
use Rattle.moves.proofs.RenewLaws.{NamedTurn}
use Rattle.moves.proofs.renewing.renew.Given as goal

-- `renew` meets its contract. The loop's invariant: the first k lines are made anew and counted, and those behind them are as they were.
abbrev pub invariant-loop-k : goal.invariant-loop-k
invariant-loop-k l = (l.k ≤ l.m) × (length l.verdicts ≡ length l.initial.verdicts) × (length l.results ≡ length l.initial.results) × (l.named ≤ l.k) × (l.altered ≤ l.k) × ((xs : List Variable) → AllHeadsFit xs l.heads l.bodies l.m → NamedTurn xs l.heads l.bodies l.m l.row (columns_of l.initial.verdicts l.initial.results) l.i (columns_of l.verdicts l.results) l.named l.altered l.k)

abbrev pub decreases-loop-k : goal.decreases-loop-k
decreases-loop-k l = l.m - l.k
