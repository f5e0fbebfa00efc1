use Prim.Native.Nat.{ℕ, ◌-◌, ◌≤◌}
use mathlib.Core.Path.{◌≡◌}
use mathlib.Core.List.{List}
use lib.ListN.{take}
use Rattle.judge.specs.InUse.{first_unfit}
use Rattle.store.specs.Tables.{variables_in}
use Rattle.judge.proofs.UnfitLaws.{unfit_from}
use Rattle.judge.proofs.in_use.first_unfit.Given as goal

-- `first_unfit` meets its contract. The loop's invariant: the first value that does not fit is the first of those that are left.
abbrev pub invariant-loop-i : goal.invariant-loop-i
invariant-loop-i l = (l.i ≤ l.n) × ((file : List ℕ) → unfit_from file l.variables l.n l.values l.i ≡ first_unfit (variables_in file l.variables l.n) (take l.n l.values))

abbrev pub decreases-loop-i : goal.decreases-loop-i
decreases-loop-i l = l.n - l.i
