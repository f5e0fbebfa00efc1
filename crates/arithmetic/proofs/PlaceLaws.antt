-- The machine's operators on words are those on bit places. Assumes nothing.
use mathlib.Core.Path.{◌≡◌, refl, sym, ap, ◌∙◌, fun_ext}
use Prim.Native.Nat.{ℕ, zero, suc, ◌+◌, ◌-◌, ◌*◌, ◌/◌, ◌%◌, ◌^◌, ◌≤◌, ◌<◌}
use native.Mathlib.Nat.{mod-eq_of_lt, mod-lt, mod-one}
use native.Mathlib.Numerals.{one-add}
use native.Mathlib.Omega.{arith}
use lib.Bits.{bit_and, bit_or, bit_xor, and_shr, and_mod, and_lt, or_shr, or_mod, or_lt, xor_shr, xor_mod, xor_lt}
use lib.Count.{ones, ones_cat}
use lib.Dec.{lit<}
use lib.Pow.{mod-pow-add, pow_pos}
use Rattle.arithmetic.specs.declared.Bitwise.{Bitwise}
use Rattle.arithmetic.specs.declared.Bitwise.TheVariants.{And, Or, Xor}
use Rattle.arithmetic.specs.Bits.{bit, places, bit_count, on_bits, combined, inverted, differing_bits}

-- the machine's operator on words
abbrev pub on_words : Bitwise → ℕ → ℕ → ℕ
on_words And a b = bit_and a b
on_words Or a b = bit_or a b
on_words Xor a b = bit_xor a b

words_shr : (o : Bitwise) (a b i : ℕ) → on_words o a b / 2 ^ i ≡ on_words o (a / 2 ^ i) (b / 2 ^ i)
words_shr And = and_shr
words_shr Or = or_shr
words_shr Xor = xor_shr

words_mod : (o : Bitwise) (a b i : ℕ) → on_words o a b % 2 ^ i ≡ on_words o (a % 2 ^ i) (b % 2 ^ i)
words_mod And = and_mod
words_mod Or = or_mod
words_mod Xor = xor_mod

words_lt : (o : Bitwise) (k a b : ℕ) → a < 2 ^ k → b < 2 ^ k → on_words o a b < 2 ^ k
words_lt And = and_lt
words_lt Or = or_lt
words_lt Xor = xor_lt

-- on single bits the two agree
words_bits : (x y : ℕ) → x < 2 → y < 2 → (o : Bitwise) → on_words o x y ≡ on_bits o x y
unfolding on_bits
words_bits zero zero hx hy And = refl
words_bits zero zero hx hy Or = refl
words_bits zero zero hx hy Xor = refl
words_bits zero (suc zero) hx hy And = refl
words_bits zero (suc zero) hx hy Or = refl
words_bits zero (suc zero) hx hy Xor = refl
words_bits zero (suc (suc y)) hx hy o = let z : ⊥ = omega arith in absurd z
words_bits (suc zero) zero hx hy And = refl
words_bits (suc zero) zero hx hy Or = refl
words_bits (suc zero) zero hx hy Xor = refl
words_bits (suc zero) (suc zero) hx hy And = refl
words_bits (suc zero) (suc zero) hx hy Or = refl
words_bits (suc zero) (suc zero) hx hy Xor = refl
words_bits (suc zero) (suc (suc y)) hx hy o = let z : ⊥ = omega arith in absurd z
words_bits (suc (suc x)) y hx hy o = let z : ⊥ = omega arith in absurd z

bit_lt : (a i : ℕ) → bit a i < 2
unfolding bit
bit_lt a i = mod-lt (a / 2 ^ i) (lit< tt)

bit_words : (o : Bitwise) (a b i : ℕ) → bit (on_words o a b) i ≡ on_bits o (bit a i) (bit b i)
unfolding bit
bit_words o a b i = rw (words_shr o a b i) (words_mod o (a / 2 ^ i) (b / 2 ^ i) 1 ∙ words_bits (bit a i) (bit b i) (bit_lt a i) (bit_lt b i) o)

-- one more place
mod_suc : (x k : ℕ) → bit x k * 2 ^ k + x % 2 ^ k ≡ x % 2 ^ suc k
unfolding bit
mod_suc x k = sym (mod-pow-add x 1 k) ∙ ap (λ (n : ℕ). x % 2 ^ n) (one-add k)

-- a number by its places
places_bit : (k x : ℕ) → places k (bit x) ≡ x % 2 ^ k
unfolding places
places_bit zero x = sym (mod-one x)
places_bit (suc k) x = rw (places_bit k x) (mod_suc x k)

pub combined_is : (o : Bitwise) (k a b : ℕ) → a < 2 ^ k → b < 2 ^ k → on_words o a b ≡ combined o k a b
unfolding combined
combined_is o k a b ha hb =
    sym (mod-eq_of_lt (words_lt o k a b ha hb)) ∙ sym (places_bit k (on_words o a b)) ∙ ap (places k) (fun_ext (bit_words o a b))

pub combined_lt : (o : Bitwise) (k a b : ℕ) → a < 2 ^ k → b < 2 ^ k → combined o k a b < 2 ^ k
combined_lt o k a b ha hb = rw (combined_is o k a b ha hb) at (words_lt o k a b ha hb)

-- the inverse, place by place, is what is left to all ones
inverted_mod : (k a : ℕ) → places k (λ i. 1 - bit a i) ≡ 2 ^ k - 1 - a % 2 ^ k
unfolding places
inverted_mod zero a = rw (mod-one a)
inverted_mod (suc k) a =
    rw (inverted_mod k a, ← mod_suc a k) (by (bit a k) (bit_lt a k) (a % 2 ^ k) (mod-lt a (pow_pos k)))
  where
    by : (x : ℕ) → x < 2 → (r : ℕ) → r < 2 ^ k → (1 - x) * 2 ^ k + (2 ^ k - 1 - r) ≡ 2 ^ suc k - 1 - (x * 2 ^ k + r)
    by zero hx r hr = omega arith
    by (suc zero) hx r hr = omega arith
    by (suc (suc x)) hx r hr = let z : ⊥ = omega arith in absurd z

pub inverted_is : (k a : ℕ) → a < 2 ^ k → inverted k a ≡ 2 ^ k - 1 - a
unfolding inverted
inverted_is k a h = inverted_mod k a ∙ ap (λ (n : ℕ). 2 ^ k - 1 - n) (mod-eq_of_lt h)

pub inverted_lt : (k a : ℕ) → a < 2 ^ k → inverted k a < 2 ^ k
inverted_lt k a h = rw (inverted_is k a h) (omega arith)

-- the set bits, place by place
ones_bit : (x : ℕ) → x < 2 → ones x ≡ x
unfolding ones
ones_bit zero h = refl
ones_bit (suc zero) h = refl
ones_bit (suc (suc x)) h = let z : ⊥ = omega arith in absurd z

count_bit : (k x : ℕ) → bit_count k (bit x) ≡ ones (x % 2 ^ k)
unfolding bit_count
count_bit zero x = rw (mod-one x) (sym (ones_bit 0 (lit< tt)))
count_bit (suc k) x =
    rw (count_bit k x)
    (ap (λ (n : ℕ). n + ones (x % 2 ^ k)) (sym (ones_bit (bit x k) (bit_lt x k)))
    ∙ sym (ones_cat k (bit x k) (x % 2 ^ k) (mod-lt x (pow_pos k)))
    ∙ ap ones (mod_suc x k))

pub differing_is : (k a b : ℕ) → a < 2 ^ k → b < 2 ^ k → ones (bit_xor a b) ≡ differing_bits k a b
unfolding differing_bits
differing_is k a b ha hb =
    ap ones (sym (mod-eq_of_lt (xor_lt k a b ha hb))) ∙ sym (count_bit k (bit_xor a b)) ∙ ap (bit_count k) (fun_ext (bit_words Xor a b))

-- no more bits differ than there are
count_most : (f : ℕ → ℕ) → ((i : ℕ) → f i ≤ 1) → (k : ℕ) → bit_count k f ≤ k
unfolding bit_count
count_most f h zero = omega arith
count_most f h (suc k) = omega (arith, h k, count_most f h k)

bit_differs : (a b i : ℕ) → on_bits Xor (bit a i) (bit b i) ≤ 1
bit_differs a b i = let l : on_bits Xor (bit a i) (bit b i) < 2 = rw (← bit_words Xor a b i) (bit_lt (bit_xor a b) i) in omega arith

pub bits_most : (k a b : ℕ) → differing_bits k a b ≤ k
unfolding differing_bits
bits_most k a b = count_most (λ i. on_bits Xor (bit a i) (bit b i)) (bit_differs a b) k
