-- Laws of 2 ^ k and of remainders by it. Assumes nothing.
use mathlib.Core.Path.{◌≡◌, sym, ap, ap₂, ◌∙◌}
use Prim.Native.Nat.{ℕ, suc, ◌+◌, ◌-◌, ◌*◌, ◌/◌, ◌%◌, ◌^◌, ◌≤◌, ◌<◌}
use native.Mathlib.Nat.{add-mul-mod_self_right, div-eq_of_lt, le_of_lt, lt_of_le_of_lt, lt_of_lt_of_le, mod-eq_of_lt, mul_assoc, mul-le-mul_left, mul-lt-mul_of_pos_right, mul-mod_left, one-mul, pow-suc}
use native.Mathlib.Omega.{arith}
use lib.Arith.{digits_mod}
use lib.Bits.{bit_and, and_mask}
use lib.Pow.{high, mod-mod-pow, ones_lt, ones_split, pow-add, pow-lt, pow_mono, pow_pos, split, suc_ones}
use mir.Syntax.{w64}
use mir.Val.{Fits}
use Rattle.edition.specs.Word.{word_bits}

-- 2 ^ k is twice 2 ^ (k - 1)
pub double : (k : ℕ) → 1 ≤ k → 2 ^ k ≡ 2 ^ (k - 1) * 2
double k h =
    let e : k ≡ suc (k - 1) = omega arith in
    ap (λ (n : ℕ). 2 ^ n) e ∙ pow-suc 2 (k - 1)

-- n is q * m + r, r below m
pub mod_at : (q : ℕ) {n m r : ℕ} → n ≡ q * m + r → r < m → n % m ≡ r
mod_at q {n} {m} {r} e h = ap (λ (x : ℕ). x % m) e ∙ digits_mod q h

-- numbers that are equal but for multiples of n have the same remainder
pub mod_cong : (n p q x y : ℕ) → x + p * n ≡ y + q * n → x % n ≡ y % n
mod_cong n p q x y e = sym (add-mul-mod_self_right x p n) ∙ ap (λ (z : ℕ). z % n) e ∙ add-mul-mod_self_right y q n

-- one bit, shifted left within a word
pub one_shl : (n : ℕ) → n < word_bits → 1 * 2 ^ n % 2 ^ word_bits ≡ 2 ^ n
one_shl n h = rw (one-mul (2 ^ n)) (mod-eq_of_lt (pow-lt h))

-- all ones, shifted right, leave 2 ^ k - 1
pub ones_shr : (k : ℕ) → k ≤ word_bits → (2 ^ word_bits - 1) / 2 ^ (word_bits - k) ≡ 2 ^ k - 1
ones_shr k h =
    let e : k + (word_bits - k) ≡ word_bits = omega arith in
    ap (λ (n : ℕ). (2 ^ n - 1) / 2 ^ (word_bits - k)) (sym e)
    ∙ ap (λ (n : ℕ). n / 2 ^ (word_bits - k)) (ones_split k (word_bits - k))
    ∙ high (2 ^ k - 1) (word_bits - k) (ones_lt (word_bits - k))

-- a remainder by the size of a word on the way to one by 2 ^ k changes nothing
pub mod_word : (k n : ℕ) → k ≤ word_bits → n % 2 ^ word_bits % 2 ^ k ≡ n % 2 ^ k
mod_word k n h =
    let e : word_bits - k + k ≡ word_bits = omega arith in
    ap (λ (m : ℕ). n % 2 ^ m % 2 ^ k) (sym e) ∙ mod-mod-pow n (word_bits - k) k

-- a difference of words is one modulo 2 ^ k
pub sub_word : (k a b : ℕ) → k ≤ word_bits → b < 2 ^ k → (a + 2 ^ word_bits - b) % 2 ^ word_bits % 2 ^ k ≡ (a + 2 ^ k - b) % 2 ^ k
sub_word k a b h l =
    let t = 2 ^ (word_bits - k) - 1 in
    let s : word_bits - k + k ≡ word_bits = omega arith in
    let e : 2 ^ word_bits ≡ suc t * 2 ^ k = sym (ap (λ (n : ℕ). 2 ^ n) s) ∙ pow-add 2 (word_bits - k) k ∙ ap (λ (n : ℕ). n * 2 ^ k) (sym (suc_ones (word_bits - k))) in
    mod_word k (a + 2 ^ word_bits - b) h ∙ mod_cong (2 ^ k) 0 t (a + 2 ^ word_bits - b) (a + 2 ^ k - b) (omega arith)

-- the low word of a product, by halves of 32 bits
low_product : (a₀ a₁ b₀ b₁ : ℕ) →
    (a₀ * b₀ + ((a₁ * b₀ + a₀ * b₁) % 2 ^ word_bits * 2 ^ 32) % 2 ^ word_bits) % 2 ^ word_bits ≡ ((a₁ * 2 ^ 32 + a₀) * (b₁ * 2 ^ 32 + b₀)) % 2 ^ word_bits
low_product a₀ a₁ b₀ b₁ = omega arith

-- the same, as a program that masks and shifts has the halves
pub low_product_of : (a b : ℕ) →
    (bit_and a (2 ^ 32 - 1) * bit_and b (2 ^ 32 - 1) + ((a / 2 ^ 32 * bit_and b (2 ^ 32 - 1) + bit_and a (2 ^ 32 - 1) * (b / 2 ^ 32)) % 2 ^ word_bits * 2 ^ 32) % 2 ^ word_bits) % 2 ^ word_bits ≡ a * b % 2 ^ word_bits
low_product_of a b =
    rw (and_mask a 32, and_mask b 32) (low_product (a % 2 ^ 32) (a / 2 ^ 32) (b % 2 ^ 32) (b / 2 ^ 32)
    ∙ ap₂ (λ (x y : ℕ). x * y % 2 ^ word_bits) (split a 32) (split b 32))

-- two numbers of 32 bits have a product that fits a word
pub product_fits : {x y : ℕ} → x < 2 ^ 32 → y < 2 ^ 32 → Fits w64 (x * y)
product_fits {x} {y} hx hy = record { fits = lt_of_le_of_lt (mul-le-mul_left x (le_of_lt hy)) (mul-lt-mul_of_pos_right hx (pow_pos 32)) }

-- a shift by k or more leaves nothing of k bits, to the left and to the right
pub shl_gone : (k a n : ℕ) → k ≤ n → a * 2 ^ n % 2 ^ k ≡ 0
shl_gone k a n h =
    let e : n ≡ n - k + k = omega arith in
    ap (λ (x : ℕ). a * 2 ^ x % 2 ^ k) e
    ∙ ap (λ (x : ℕ). a * x % 2 ^ k) (pow-add 2 (n - k) k)
    ∙ ap (λ (x : ℕ). x % 2 ^ k) (sym (mul_assoc a (2 ^ (n - k)) (2 ^ k)))
    ∙ mul-mod_left (a * 2 ^ (n - k)) (2 ^ k)

pub shr_gone : (k a n : ℕ) → k ≤ n → a < 2 ^ k → a / 2 ^ n ≡ 0
shr_gone k a n h l = div-eq_of_lt (lt_of_lt_of_le l (pow_mono h))
