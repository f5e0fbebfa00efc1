-- A value in decimal: it has 1 to 20 digits, and they make the value. Assumes nothing.
use Prim.Native.Nat.{ℕ, zero, suc, ◌+◌, ◌/◌, ◌%◌, ◌^◌, ◌≤◌, ◌<◌}
use mathlib.Core.Path.{◌≡◌, refl, ◌∙◌}
use mathlib.Core.List.{[], ◌∷◌, ◌++◌}
use mathlib.Core.Bool.{Bool, true, false, cond}
use native.Mathlib.Omega.{arith}
use lib.Dec.{ltb}
use lib.ListN.{length, length-append}
use borrow.Author.Tests.{le-leb, ltb-true}
use Rattle.refusal.specs.Lists.{every}
use Rattle.text.specs.Bytes.{is_digit}
use Rattle.text.specs.Spelling.{is_numeral, decimal_from, decimal, max_digits, number_bound}
use Rattle.printing.specs.Digits.{digit, digits_in, digits}
use Rattle.refusal.proofs.ListLaws.{every_append}
use Rattle.text.proofs.NumberLaws.{decimal_append}
use Rattle.printing.proofs.DigitLaws.{digits_count}

-- the digit of a number below ten is a digit
is_digit_lem : (d : ℕ) → d < 10 → is_digit (digit d) ≡ true
unfolding is_digit
is_digit_lem d h = rw (le-leb 48 (48 + d) (omega arith), le-leb (48 + d) 57 (omega arith))

-- the digits of a number, of k at most: all of them are digits
all_digits : (k v : ℕ) → every is_digit (digits_in k v) ≡ true
unfolding every digits_in
all_digits zero v = refl
all_digits (suc k) v = go (ltb v 10) refl (all_digits k (v / 10))
  where
    go : (t : Bool) → ltb v 10 ≡ t → every is_digit (digits_in k (v / 10)) ≡ true → every is_digit (cond t (digit v ∷ []) (digits_in k (v / 10) ++ (digit (v % 10) ∷ []))) ≡ true
    go true e ih = rw (is_digit_lem v (ltb-true v 10 e))
    go false e ih = every_append is_digit (digits_in k (v / 10)) (digit (v % 10) ∷ []) ih (rw (is_digit_lem (v % 10) (omega arith)))

-- there is one at least
at_least : (k v : ℕ) → 1 ≤ length (digits_in (suc k) v)
unfolding digits_in
at_least k v = go (ltb v 10)
  where
    go : (t : Bool) → 1 ≤ length (cond t (digit v ∷ []) (digits_in k (v / 10) ++ (digit (v % 10) ∷ [])))
    go true = omega arith
    go false = rw length-append (omega arith)

-- they make the number, if k are enough for it
made : (k v : ℕ) → v < 10 ^ k → decimal (digits_in k v) ≡ v
unfolding digits_in decimal_from
made zero v h = omega arith
made (suc k) v h = go (ltb v 10) refl (made k (v / 10))
  where
    go : (t : Bool) → ltb v 10 ≡ t → (v / 10 < 10 ^ k → decimal (digits_in k (v / 10)) ≡ v / 10) → decimal (cond t (digit v ∷ []) (digits_in k (v / 10) ++ (digit (v % 10) ∷ []))) ≡ v
    go true e ih = omega arith
    go false e ih = decimal_append (digits_in k (v / 10)) (digit (v % 10) ∷ []) 0 ∙ rw (ih (omega arith)) (omega arith)

-- the digits of a value: 1 to 20, and they make the value
pub digits_all : (v : ℕ) → every is_digit (digits v) ≡ true
unfolding digits
digits_all v = all_digits max_digits v

pub digits_numeral : (v : ℕ) → is_numeral max_digits (digits v) ≡ true
unfolding digits is_numeral
digits_numeral v = rw (le-leb 1 (length (digits v)) (at_least 19 v), le-leb (length (digits v)) max_digits (digits_count v), digits_all v)

pub digits_make : (v : ℕ) → v < number_bound → decimal (digits v) ≡ v
unfolding digits
digits_make v h = made max_digits v (omega arith)
