use Prim.Native.Nat.{◌-◌}
use lib.ListN.{length}
use Rattle.printing.proofs.PlaceLaws.{Copying}
use Rattle.printing.proofs.put_bytes.Given as goal

-- `put_bytes` meets its contract. The loop's invariant: the bytes passed are put.
abbrev pub invariant-loop-i : goal.invariant-loop-i
invariant-loop-i l = Copying l.bytes l.initial.room l.at l.room l.i

abbrev pub decreases-loop-i : goal.decreases-loop-i
decreases-loop-i l = length l.bytes - l.i
