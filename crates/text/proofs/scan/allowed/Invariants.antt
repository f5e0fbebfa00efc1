use Prim.Native.Nat.{◌-◌}
use lib.ListN.{length}
use Rattle.text.proofs.StopLaws.{LeaptTo}
use Rattle.text.proofs.scan.allowed.Given as goal

-- `allowed` meets its contract: a scan over allowed bytes, in leaps over printing ones.
abbrev pub invariant-loop-i : goal.invariant-loop-i
invariant-loop-i l = LeaptTo l.text l.at l.i

abbrev pub decreases-loop-i : goal.decreases-loop-i
decreases-loop-i l = length l.text - l.i
