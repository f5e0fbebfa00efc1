-- A number that is no larger has no more digits. Assumes nothing.
use Prim.Native.Nat.{ℕ, zero, suc, ◌+◌, ◌*◌, ◌-◌, ◌/◌, ◌^◌, ◌≤◌, ◌<◌}
use Prim.Native.Char.{code}
use mathlib.Core.Path.{◌≡◌}
use mathlib.Core.Bool.{true}
use mathlib.Core.List.{List, [], ◌∷◌}
use native.Mathlib.Decide.{dec_lt}
use native.Mathlib.Omega.{arith}
use lib.ListN.{length}
use Rattle.refusal.specs.Lists.{every}
use Rattle.refusal.proofs.BoolLaws.{and_true}
use Rattle.text.specs.Bytes.{is_digit}
use Rattle.text.specs.Spelling.{is_numeral, decimal_from, decimal, number_bound}
use Rattle.text.proofs.NumberLaws.{numeral_parts}
use Rattle.text.proofs.SeenLaws.{digit_bounds}
use Rattle.printing.specs.Digits.{digits}
use Rattle.printing.proofs.DigitLaws.{count_one, count_step}

-- a number that is not below ten is not below the first power
more : (m v : ℕ) → v < 10 ^ suc m → 10 ≤ v → 1 ≤ m
more zero v h k = absurd (omega arith)
more (suc m) v h k = omega arith

-- a number below a power of ten has no more digits than that power
pub few_digits : (m v : ℕ) → 1 ≤ m → v < 10 ^ m → v < number_bound → length (digits v) ≤ m
few_digits zero v h k b = absurd (omega arith)
few_digits (suc m) v h k b = elim (dec_lt v 10) [
  | yes p ↦ omega (arith, count_one v p)
  | no p ↦ omega (arith, count_step v b (omega arith), few_digits m (v / 10) (more m v k (omega arith)) (omega arith) (omega arith))
]

-- digits behind a number below a power of ten make one below the power that has as many more
below : (j : ℕ) (s : List ℕ) (n : ℕ) → every is_digit s ≡ true → n < 10 ^ j → decimal_from n s < 10 ^ (j + length s)
unfolding every decimal_from
below j [] n e h = let z : j + 0 ≡ j = omega arith in rw z h
below j (b ∷ s) n e h =
    let q = and_true (is_digit b) (every is_digit s) e in
    let z : j + suc (length s) ≡ suc j + length s = omega arith in
    rw z (below (suc j) s (n * 10 + (b - code "0")) q.1 (omega (arith, digit_bounds b q.0)))

-- what digits make is spelt by no more of them, and so is any smaller number
pub digits_cost : (n v : ℕ) (s : List ℕ) → is_numeral n s ≡ true → v ≤ decimal s → v < number_bound → length (digits v) ≤ length s
digits_cost n v s e h b =
    let p = numeral_parts n s e in
    let z : 0 + length s ≡ length s = omega arith in
    few_digits (length s) v p.0 (omega (arith, rw z at (below 0 s 0 p.1 (omega arith)))) b
