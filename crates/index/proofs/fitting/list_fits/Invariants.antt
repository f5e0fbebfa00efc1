use Prim.Native.Nat.{◌-◌, ◌<◌, ◌^◌, min}
use mathlib.Core.Path.{◌≡◌}
use lib.ListN.{length, take, drop}
use Rattle.index.specs.AnyIndex.{list_fits}
use Rattle.index.proofs.AlongLaws.{list_from}
use Rattle.index.proofs.fitting.list_fits.Given as goal

-- `list_fits` meets its contract. The loop's invariant: whether the list fits is whether the numbers that are left do, behind the last one seen.
abbrev pub invariant-loop-k : goal.invariant-loop-k
invariant-loop-k l = (l.end ≡ min l.to (length l.lists)) × (l.last < 2 ^ 32) × (list_from l.m l.lists l.to l.last l.k ≡ list_fits l.m (drop l.from (take l.to l.lists)))

abbrev pub decreases-loop-k : goal.decreases-loop-k
decreases-loop-k l = l.end - l.k
