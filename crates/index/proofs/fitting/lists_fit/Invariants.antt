use Prim.Native.Nat.{◌-◌, ◌≤◌}
use mathlib.Core.Path.{◌≡◌}
use Rattle.index.specs.Index.{index_of}
use Rattle.index.specs.AnyIndex.{lists_fit}
use Rattle.index.proofs.AlongLaws.{lists_from}
use Rattle.index.proofs.fitting.lists_fit.Given as goal

-- `lists_fit` meets its contract. The loop's invariant: whether all lists fit is whether those that are left do.
abbrev pub invariant-loop-i : goal.invariant-loop-i
invariant-loop-i l = (l.i ≤ l.n) × (lists_from l.starts l.lists l.n l.m l.i ≡ lists_fit l.n l.m (index_of l.starts l.lists))

abbrev pub decreases-loop-i : goal.decreases-loop-i
decreases-loop-i l = l.n - l.i
