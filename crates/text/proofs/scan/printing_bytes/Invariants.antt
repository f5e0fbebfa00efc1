use Prim.Native.Nat.{◌-◌}
use lib.ListN.{length}
use Rattle.text.specs.declared.Class.TheVariants.{Printing}
use Rattle.text.specs.Scan.{is_of, Scanned}
use Rattle.text.proofs.scan.printing_bytes.Given as goal

-- `printing_bytes` meets its contract: a scan over printing bytes that stops at the first set digit.
abbrev pub invariant-loop-i : goal.invariant-loop-i
invariant-loop-i l = Scanned (is_of Printing) l.text l.at l.i

abbrev pub decreases-loop-i : goal.decreases-loop-i
decreases-loop-i l = length l.text - l.i
