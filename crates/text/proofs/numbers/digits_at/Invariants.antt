use Prim.Native.Nat.{ℕ, ◌-◌, ◌^◌, ◌≤◌, ◌<◌}
use mathlib.Core.Path.{◌≡◌}
use mathlib.Core.List.{List}
use lib.ListN.{length, drop}
use Rattle.text.specs.Bytes.{front_of}
use Rattle.text.specs.Spelling.{decimal_from, decimal}
use Rattle.text.specs.declared.Class.TheVariants.{Digit}
use Rattle.text.specs.Scan.{is_of, past}
use Rattle.text.proofs.numbers.digits_at.Given as goal

-- `digits_at` meets its contract. The loop's invariant: n and the digits that are left make the number that all of them make, and stop where they do.
pub record Reading (text : List ℕ) (at n i : ℕ) : Type 0 where
  pub within : i ≤ length text
  pub fits : n < 2 ^ 64
  pub left : decimal_from n (front_of (is_of Digit) (drop i text)) ≡ decimal (front_of (is_of Digit) (drop at text))
  pub stop : past (is_of Digit) text i ≡ past (is_of Digit) text at

abbrev pub invariant-loop-i : goal.invariant-loop-i
invariant-loop-i l = Reading l.text l.at l.n l.i

abbrev pub decreases-loop-i : goal.decreases-loop-i
decreases-loop-i l = length l.text - l.i
