use Prim.Native.Nat.{◌-◌, ◌≤◌}
use mathlib.Core.Path.{◌≡◌}
use mathlib.Core.List.{List}
use lib.ListN.{length}
use Rattle.constraint.specs.File.{Variable}
use Rattle.store.specs.Tables.{AllHeadsFit}
use Rattle.moves.specs.Internal.{columns_of}
use Rattle.moves.proofs.RenewLaws.{ListedTurn}
use Rattle.moves.proofs.renewing.renew_listed.Given as goal

-- `renew_listed` meets its contract. The loop's invariant: the first k lines of the list are made anew and counted, and all others are as they were.
abbrev pub invariant-loop-k : goal.invariant-loop-k
invariant-loop-k l = (l.k ≤ length l.list) × (length l.verdicts ≡ length l.initial.verdicts) × (length l.results ≡ length l.initial.results) × (l.altered ≤ l.k) × ((xs : List Variable) → AllHeadsFit xs l.heads l.bodies l.m → ListedTurn xs l.heads l.bodies l.m l.row (columns_of l.initial.verdicts l.initial.results) l.list (columns_of l.verdicts l.results) l.altered l.k)

abbrev pub decreases-loop-k : goal.decreases-loop-k
decreases-loop-k l = length l.list - l.k
