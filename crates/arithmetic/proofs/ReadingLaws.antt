-- The signed reading lies in its range, and large shifts leave the top bit everywhere. Assumes nothing.
use mathlib.Core.Path.{◌≡◌, refl, sym, ap, ◌∙◌, subst}
use mathlib.Core.Bool.{true}
use Prim.Native.Nat.{ℕ, zero, suc, ◌+◌, ◌-◌, ◌*◌, ◌/◌, ◌%◌, ◌^◌, ◌≤◌, ◌<◌}
use native.Mathlib.Decide.{dec_lt}
use native.Mathlib.Nat.{div-eq_of_lt, sub-zero}
use native.Mathlib.Omega.{arith}
use lib.Arith.{digits_div}
use lib.Dec.{T}
use lib.IntN.{ℤ, pos, negsuc, neg_ℤ}
use lib.Pow.{ones_sub-lt, pow_pos, suc_ones}
use lib.Signed.{le_z, lt_z, ◌≤ℤ◌, ◌<ℤ◌}
use borrow.Author.Tests.{le-leb, lt-ltb}
use Rattle.arithmetic.specs.declared.Shift.TheVariants.{Ashr}
use Rattle.arithmetic.specs.Bits.{bit, places}
use Rattle.arithmetic.specs.Signed.{signed}
use Rattle.arithmetic.specs.Arithmetic.{shifted}
use Rattle.arithmetic.specs.Claims.{SignedRange, ShiftedOut}
use Rattle.arithmetic.proofs.Powers.{double, shl_gone, shr_gone}
use Rattle.arithmetic.proofs.SignedLaws.{signed_low, signed_high, ashr_low, ashr_high}
use Rattle.arithmetic.proofs.ModuloLaws.{modulo-signed}

-- ---- the range
at_least : (x y : ℤ) → le_z x y ≡ true → x ≤ℤ y
at_least x y e = record { le = subst T (sym e) tt }

less_than : (x y : ℤ) → lt_z x y ≡ true → x <ℤ y
less_than x y e = record { lt = subst T (sym e) tt }

module _ (k a : ℕ) (hk : 1 ≤ k) (ha : a < 2 ^ k) where
  lowest : le_z (negsuc (2 ^ (k - 1) - 1)) (signed k a) ≡ true
  lowest = elim (dec_lt a (2 ^ (k - 1))) [
    | yes p ↦ rw (signed_low k a p)
    | no p ↦ rw (signed_high k a (omega arith) ha) (le-leb (2 ^ k - suc a) (2 ^ (k - 1) - 1) (omega (arith, double k hk)))
  ]

  highest : lt_z (signed k a) (pos (2 ^ (k - 1))) ≡ true
  highest = elim (dec_lt a (2 ^ (k - 1))) [
    | yes p ↦ rw (signed_low k a p) (lt-ltb a (2 ^ (k - 1)) p)
    | no p ↦ rw (signed_high k a (omega arith) ha)
  ]

  pub reading : SignedRange k a
  reading = record {
    from = subst (λ (h : ℕ). neg_ℤ (pos h) ≤ℤ signed k a) (suc_ones (k - 1)) (at_least (negsuc (2 ^ (k - 1) - 1)) (signed k a) lowest);
    below = less_than (signed k a) (pos (2 ^ (k - 1))) highest;
    back = modulo-signed k a ha;
  }

-- ---- the top bit everywhere
zeros : (k : ℕ) → places k (λ i. 0) ≡ 0
unfolding places
zeros zero = refl
zeros (suc k) = rw (zeros k) (omega arith)

all_ones : (k : ℕ) → places k (λ i. 1) ≡ 2 ^ k - 1
unfolding places
all_ones zero = refl
all_ones (suc k) = rw (all_ones k) (omega (arith, pow_pos k))

module _ (k a n : ℕ) (hk : 1 ≤ k) (ha : a < 2 ^ k) (hn : k ≤ n) where
  top_clear : a < 2 ^ (k - 1) → bit a (k - 1) ≡ 0
  unfolding bit
  top_clear p = rw (div-eq_of_lt p)

  top_set : ¬ (a < 2 ^ (k - 1)) → bit a (k - 1) ≡ 1
  unfolding bit
  top_set p =
      let e : a ≡ 1 * 2 ^ (k - 1) + (a - 2 ^ (k - 1)) = omega arith in
      let l : a - 2 ^ (k - 1) < 2 ^ (k - 1) = omega (arith, double k hk) in
      ap (λ (x : ℕ). x / 2 ^ (k - 1) % 2) e ∙ ap (λ (x : ℕ). x % 2) (digits_div 1 l)

  everywhere : shifted Ashr k a n ≡ places k (λ i. bit a (k - 1))
  everywhere = elim (dec_lt a (2 ^ (k - 1))) [
    | yes p ↦ rw (top_clear p, zeros k) (sym (ashr_low k a n p ha) ∙ shr_gone k a n hn ha)
    | no p ↦
        rw (top_set p, all_ones k)
        (sym (ashr_high k a n (omega arith) ha)
        ∙ ap (λ (x : ℕ). 2 ^ k - 1 - x) (shr_gone k (2 ^ k - 1 - a) n hn (ones_sub-lt k a))
        ∙ sub-zero (2 ^ k - 1))
  ]

  pub shifted_out : ShiftedOut k a n
  unfolding shifted
  shifted_out = record { left = shl_gone k a n hn; right = shr_gone k a n hn ha; top = everywhere }
