use Prim.Native.Nat.{◌+◌, ◌/◌}
use native.Mathlib.Omega.{arith}
use lib.ListN.{length-set}
use Rattle.printing.proofs.DigitLaws.{put_two_digits}
use Rattle.printing.proofs.put_below_hundred.Goals as goal

pub bounds-room-last : goal.bounds-room-last
bounds-room-last c = let a = c.args in
    omega (arith, c.requires.1, c.tens_count.ensures, length-set a.room.now a.at (48 + a.v / 10))

pub returns : goal.returns
returns c = put_two_digits _ c.requires.0 _ _ c.requires.1 _ c.tens_count.ensures
