-- Quotients of numbers of k bits and their remainders. Assumes nothing.
use mathlib.Core.Path.{◌≡◌, refl, sym}
use Prim.Native.Nat.{ℕ, ◌+◌, ◌-◌, ◌*◌, ◌/◌, ◌^◌, ◌<◌, ◌≤◌}
use native.Mathlib.Nat.{div-mul-le_self, lt-div-mul-add, mod-eq_of_lt, mod-eq-sub-div-mul, mod-lt}
use native.Mathlib.Omega.{arith}
use lib.IntN.{pos, pos-ne-negsuc}
use Rattle.arithmetic.specs.declared.Arithmetic.TheVariants.{Add, Mul}
use Rattle.arithmetic.specs.declared.Division.TheVariants.{Udiv, Urem}
use Rattle.arithmetic.specs.Arithmetic.{computed, divided}
use Rattle.arithmetic.specs.Claims.{CutTowardsZero, Divides, UnsignedDivisions}

module _ (k a b : ℕ) (ha : a < 2 ^ k) (pb : 0 < b) where
  adds_up : computed Add k (computed Mul k (a / b) b) (a - a / b * b) ≡ a
  unfolding computed
  adds_up =
      let l : a / b * b ≤ a = div-mul-le_self a b in
      let g : a / b * b < 2 ^ k = omega arith in
      let e : a / b * b + (a - a / b * b) ≡ a = omega arith in
      rw (mod-eq_of_lt g, e) (mod-eq_of_lt ha)

  cut : CutTowardsZero (pos a) (pos b) (pos (a / b))
  cut = record {
    reaches = div-mul-le_self a b;
    next_exceeds = omega (arith, lt-div-mul-add {a = a} {b = b} pb);
    sign_of_quotient = λ h. refl;
  }

  divides : Divides (λ (n : ℕ). pos n) k a b (divided Udiv k a b) (divided Urem k a b)
  unfolding divided
  divides = record {
    adds_up = adds_up;
    remainder_small = rw (sym (mod-eq-sub-div-mul a b)) (mod-lt a pb);
    sign_of_remainder = λ h. refl;
    towards_zero = λ h. cut;
    wraps = λ h. absurd (pos-ne-negsuc b 0 h.1);
  }

pub unsigned_divisions : UnsignedDivisions
unsigned_divisions k a b hk ha hb pb = divides k a b ha pb
