-- What a turn of the loop of `hex` does, and what is left at its end.
use Prim.Native.Nat.{ℕ, suc, ◌+◌, ◌-◌, ◌*◌, ◌/◌, ◌%◌, ◌^◌, ◌≤◌, ◌<◌}
use mathlib.Core.Path.{◌≡◌, sym, ap, ◌∙◌}
use mathlib.Core.List.{List}
use native.Mathlib.Numerals.{add-one}
use native.Mathlib.Omega.{arith}
use lib.Arith.{digits_mod}
use lib.Bits.{bit_or, or_shifted}
use lib.ListN.{length, take, drop, get_or}
use lib.Seq.{drop-cons}
use Rattle.reporting.specs.Hex.{digit_value, hex_after}

-- the shift and the bitwise or put a digit behind the others
pub appended : (n d : ℕ) → d < 16 → bit_or (n * 2 ^ 4 % 2 ^ 64) d ≡ (n * 16 + d) % 2 ^ 64
appended n d h =
    let low : n * 2 ^ 4 % 2 ^ 64 ≡ n % 2 ^ 60 * 2 ^ 4 = omega arith in
    let all : n * 16 + d ≡ n / 2 ^ 60 * 2 ^ 64 + (n % 2 ^ 60 * 2 ^ 4 + d) = omega arith in
    let fits : n % 2 ^ 60 * 2 ^ 4 + d < 2 ^ 64 = omega arith in
    rw (low, or_shifted (n % 2 ^ 60) 4 d h) (sym (ap (λ (x : ℕ). x % 2 ^ 64) all ∙ digits_mod (n / 2 ^ 60) fits))

pub hex_turn :
    (text : List ℕ) (n i end : ℕ) → i < end → end ≤ length text
    → hex_after n (take (end - i) (drop i text))
    ≡ hex_after ((n * 16 + digit_value (get_or text i 0)) % 2 ^ 64) (take (end - (i + 1)) (drop (i + 1) text))
unfolding hex_after
hex_turn text n i end h k =
    let left : end - i ≡ suc (end - (i + 1)) = omega arith in
    let inside : i < length text = omega arith in
    rw (left, drop-cons text i 0, add-one)

pub hex_end : (text : List ℕ) (n i end : ℕ) → end ≤ i → hex_after n (take (end - i) (drop i text)) ≡ n
unfolding hex_after
hex_end text n i end h = let None : end - i ≡ 0 = omega arith in rw None
