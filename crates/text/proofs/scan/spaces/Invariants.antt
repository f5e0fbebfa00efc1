use Prim.Native.Nat.{◌-◌}
use lib.ListN.{length}
use Rattle.text.specs.declared.Class.TheVariants.{Space}
use Rattle.text.specs.Scan.{is_of, Scanned}
use Rattle.text.proofs.scan.spaces.Given as goal

-- `spaces` meets its contract: a scan over white space.
abbrev pub invariant-loop-i : goal.invariant-loop-i
invariant-loop-i l = Scanned (is_of Space) l.text l.at l.i

abbrev pub decreases-loop-i : goal.decreases-loop-i
decreases-loop-i l = length l.text - l.i
