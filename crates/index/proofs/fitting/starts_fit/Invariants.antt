use Prim.Native.Nat.{◌+◌, ◌-◌, ◌≤◌}
use mathlib.Core.Path.{◌≡◌}
use Rattle.index.specs.Index.{index_of}
use Rattle.index.specs.AnyIndex.{starts_fit}
use Rattle.index.proofs.AlongLaws.{starts_from}
use Rattle.index.proofs.fitting.starts_fit.Given as goal

-- `starts_fit` meets its contract. The loop's invariant: whether the starts fit is whether those that are left do, behind the last one seen.
abbrev pub invariant-loop-i : goal.invariant-loop-i
invariant-loop-i l = (l.i ≤ l.n + 1) × (starts_from l.starts l.lists l.n l.last l.i ≡ starts_fit l.n (index_of l.starts l.lists))

abbrev pub decreases-loop-i : goal.decreases-loop-i
decreases-loop-i l = l.n + 1 - l.i
