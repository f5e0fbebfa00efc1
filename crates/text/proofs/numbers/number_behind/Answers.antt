use native.Mathlib.Omega.{arith}
use lib.ListN.{length, drop_of_length-le}
use Prim.Native.Nat.{◌+◌, ◌≤◌}
use Rattle.text.specs.Spelling.{is_numeral}
use Rattle.text.specs.Scan.{number_read}
use Rattle.text.proofs.numbers.number_behind.Goals as goal

pub returns-else-at-text : goal.returns-else-at-text
unfolding number_read is_numeral
returns-else-at-text c = let s = c.args in
    let h : length s.text.now ≤ s.at + 1 = omega arith in
    rw (drop_of_length-le s.text.now h)
