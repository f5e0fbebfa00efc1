use Prim.Native.Nat.{◌-◌}
use lib.ListN.{length}
use Rattle.text.specs.Scan.{is_of, Scanned}
use Rattle.text.proofs.scan.scan.Given as goal

-- `scan` meets its contract: a scan for a byte that is not of the class.
abbrev pub invariant-loop-i : goal.invariant-loop-i
invariant-loop-i l = Scanned (is_of l.class) l.text l.at l.i

abbrev pub decreases-loop-i : goal.decreases-loop-i
decreases-loop-i l = length l.text - l.i
