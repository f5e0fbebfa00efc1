-- The signed reading and the operators that go by it, as programs compute them. Assumes nothing.
use mathlib.Core.Path.{◌≡◌, refl, sym, ap, ◌∙◌}
use mathlib.Core.Bool.{true, false, beq}
use Prim.Native.Nat.{ℕ, zero, suc, ◌+◌, ◌-◌, ◌/◌, ◌^◌, ◌≤◌, ◌<◌}
use native.Mathlib.Decide.{dec_lt}
use native.Mathlib.Nat.{add-div_right, div-eq_of_lt, div-le_self, lt_of_lt_of_le, mod-eq_of_lt, zero-mod}
use native.Mathlib.Omega.{arith}
use lib.Dec.{ltb}
use lib.IntN.{ℤ, pos, negsuc, neg_ℤ, nat_abs}
use lib.Pow.{pow_mono, pow_pos}
use lib.Signed.{non_neg}
use borrow.Author.Tests.{lt-ltb, le-ltb}
use Rattle.arithmetic.specs.declared.Division.TheVariants.{Sdiv}
use Rattle.arithmetic.specs.declared.Shift.TheVariants.{Ashr}
use Rattle.arithmetic.specs.declared.Extension.TheVariants.{Sext}
use Rattle.arithmetic.specs.Signed.{signed, modulo, ceiling, quotient}
use Rattle.arithmetic.specs.Arithmetic.{divided, shifted, extended}
use Rattle.arithmetic.proofs.Powers.{double}

-- by the top bit
pub signed_low : (k a : ℕ) → a < 2 ^ (k - 1) → signed k a ≡ pos a
unfolding signed
signed_low k a h = rw (lt-ltb a (2 ^ (k - 1)) h)

pub signed_high : (k a : ℕ) → 2 ^ (k - 1) ≤ a → a < 2 ^ k → signed k a ≡ negsuc (2 ^ k - suc a)
unfolding signed
signed_high k a h l = rw (le-ltb a (2 ^ (k - 1)) h, lt-ltb a (2 ^ k) l)

-- the magnitude
pub magnitude_low : (k a : ℕ) → a < 2 ^ (k - 1) → nat_abs (signed k a) ≡ a
magnitude_low k a h = rw (signed_low k a h)

pub magnitude_high : (k a : ℕ) → 2 ^ (k - 1) ≤ a → a < 2 ^ k → nat_abs (signed k a) ≡ 2 ^ k - 1 - a + 1
magnitude_high k a h l = rw (signed_high k a h l) (omega arith)

pub magnitude_le : (k a : ℕ) → 1 ≤ k → a < 2 ^ k → nat_abs (signed k a) ≤ 2 ^ (k - 1)
magnitude_le k a hk l = elim (dec_lt a (2 ^ (k - 1))) [
  | yes h ↦ omega (arith, magnitude_low k a h)
  | no h ↦ let g : 2 ^ (k - 1) ≤ a = omega arith in omega (arith, magnitude_high k a g l, double k hk)
]

pub magnitude_pos : (k a : ℕ) → a < 2 ^ k → 0 < a → 0 < nat_abs (signed k a)
magnitude_pos k a l p = elim (dec_lt a (2 ^ (k - 1))) [
  | yes h ↦ omega (arith, magnitude_low k a h)
  | no h ↦ let g : 2 ^ (k - 1) ≤ a = omega arith in omega (arith, magnitude_high k a g l)
]

sign_is : (k a : ℕ) → a < 2 ^ k → non_neg (signed k a) ≡ ltb a (2 ^ (k - 1))
sign_is k a l = elim (dec_lt a (2 ^ (k - 1))) [
  | yes h ↦ rw (signed_low k a h) (sym (lt-ltb a (2 ^ (k - 1)) h))
  | no h ↦ let g : 2 ^ (k - 1) ≤ a = omega arith in rw (signed_high k a g l) (sym (le-ltb a (2 ^ (k - 1)) g))
]

-- -q modulo 2 ^ k
pub negative_zero : (k : ℕ) → 0 ≡ modulo k (neg_ℤ (pos 0))
unfolding modulo
negative_zero k = sym (zero-mod (2 ^ k))

pub negative_pos : (k q : ℕ) → 0 < q → q < 2 ^ k → 2 ^ k - 1 - q + 1 ≡ modulo k (neg_ℤ (pos q))
unfolding modulo
negative_pos k zero p h = let z : ⊥ = omega arith in absurd z
negative_pos k (suc n) p h = let l : n < 2 ^ k = omega arith in rw (mod-eq_of_lt l) (omega arith)

-- a quotient that is rounded up
pub ceiling_zero : (b : ℕ) → 0 < b → 0 ≡ ceiling 0 b
unfolding ceiling
ceiling_zero b h = let l : 0 + (b - 1) < b = omega arith in sym (div-eq_of_lt l)

pub ceiling_pos : (a b : ℕ) → 0 < b → 0 < a → (a - 1) / b + 1 ≡ ceiling a b
unfolding ceiling
ceiling_pos a b h p =
    let e : a + (b - 1) ≡ a - 1 + b = omega arith in
    rw e (omega (arith, add-div_right (a - 1) h))

pub ceiling_le : (a b : ℕ) → 0 < b → ceiling a b ≤ a
ceiling_le zero b h = omega (arith, ceiling_zero b h)
ceiling_le (suc a) b h = let p : 0 < suc a = omega arith in omega (arith, ceiling_pos (suc a) b h p, div-le_self (suc a - 1) b)

-- the signed quotient, by the signs
quotient_agree : (x y : ℤ) → beq (non_neg x) (non_neg y) ≡ true → quotient x y ≡ pos (nat_abs x / nat_abs y)
unfolding quotient
quotient_agree (pos a) (pos b) e = refl
quotient_agree (pos a) (negsuc b) e = let z : ◌≡◌ {A = ℕ} 0 1 = cc e in let w : ⊥ = omega arith in absurd w
quotient_agree (negsuc a) (pos b) e = let z : ◌≡◌ {A = ℕ} 0 1 = cc e in let w : ⊥ = omega arith in absurd w
quotient_agree (negsuc a) (negsuc b) e = refl

quotient_differ : (x y : ℤ) → beq (non_neg x) (non_neg y) ≡ false → quotient x y ≡ neg_ℤ (pos (ceiling (nat_abs x) (nat_abs y)))
unfolding quotient
quotient_differ (pos a) (pos b) e = let z : ◌≡◌ {A = ℕ} 0 1 = cc e in let w : ⊥ = omega arith in absurd w
quotient_differ (pos a) (negsuc b) e = refl
quotient_differ (negsuc a) (pos b) e = refl
quotient_differ (negsuc a) (negsuc b) e = let z : ◌≡◌ {A = ℕ} 0 1 = cc e in let w : ⊥ = omega arith in absurd w

module _ (k a b : ℕ) (ha : a < 2 ^ k) (hb : b < 2 ^ k) where
  pub sdiv_agree : 1 ≤ k → beq (ltb a (2 ^ (k - 1))) (ltb b (2 ^ (k - 1))) ≡ true → nat_abs (signed k a) / nat_abs (signed k b) ≡ divided Sdiv k a b
  unfolding divided modulo
  sdiv_agree hk e =
      let l : nat_abs (signed k a) / nat_abs (signed k b) < 2 ^ k = omega (arith, div-le_self (nat_abs (signed k a)) (nat_abs (signed k b)), magnitude_le k a hk ha, double k hk, pow_pos (k - 1)) in
      sym (ap (modulo k) (quotient_agree (signed k a) (signed k b) (rw (sign_is k a ha, sign_is k b hb) e)) ∙ mod-eq_of_lt l)

  pub sdiv_differ : beq (ltb a (2 ^ (k - 1))) (ltb b (2 ^ (k - 1))) ≡ false → modulo k (neg_ℤ (pos (ceiling (nat_abs (signed k a)) (nat_abs (signed k b))))) ≡ divided Sdiv k a b
  unfolding divided
  sdiv_differ e = sym (ap (modulo k) (quotient_differ (signed k a) (signed k b) (rw (sign_is k a ha, sign_is k b hb) e)))

-- the arithmetic shift
pub ashr_low : (k a n : ℕ) → a < 2 ^ (k - 1) → a < 2 ^ k → a / 2 ^ n ≡ shifted Ashr k a n
unfolding shifted modulo
ashr_low k a n h l = let q : a / 2 ^ n < 2 ^ k = omega (arith, div-le_self a (2 ^ n)) in rw (signed_low k a h) (sym (mod-eq_of_lt q))

pub ashr_high : (k a n : ℕ) → 2 ^ (k - 1) ≤ a → a < 2 ^ k → 2 ^ k - 1 - (2 ^ k - 1 - a) / 2 ^ n ≡ shifted Ashr k a n
unfolding shifted modulo
ashr_high k a n h l =
    let e : 2 ^ k - 1 - a ≡ 2 ^ k - suc a = omega arith in
    let q : (2 ^ k - suc a) / 2 ^ n < 2 ^ k = omega (arith, div-le_self (2 ^ k - suc a) (2 ^ n)) in
    rw (signed_high k a h l, mod-eq_of_lt q, e)

-- a wider number of the same signed reading
pub sext_low : (x k a : ℕ) → x ≤ k → a < 2 ^ (x - 1) → a < 2 ^ x → a ≡ extended Sext x k a
unfolding extended modulo
sext_low x k a h p l = rw (signed_low x a p) (sym (mod-eq_of_lt (lt_of_lt_of_le l (pow_mono h))))

pub sext_high : (x k a : ℕ) → x ≤ k → 2 ^ (x - 1) ≤ a → a < 2 ^ x → 2 ^ k - 1 - (2 ^ x - 1 - a) ≡ extended Sext x k a
unfolding extended modulo
sext_high x k a h p l =
    let g : 2 ^ x ≤ 2 ^ k = pow_mono h in
    let q : 2 ^ x - suc a < 2 ^ k = omega arith in
    rw (signed_high x a p l, mod-eq_of_lt q) (omega arith)
