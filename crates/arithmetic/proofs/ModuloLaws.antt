-- Modulo 2 ^ k, sums and products of integers are those of numbers of k bits. Assumes nothing.
use mathlib.Core.Path.{◌≡◌, refl, sym, ap, ap₂, ◌∙◌, subst}
use Prim.Native.Nat.{ℕ, zero, suc, ◌+◌, ◌-◌, ◌*◌, ◌/◌, ◌%◌, ◌^◌, ◌<◌}
use native.Mathlib.Decide.{dec_lt}
use native.Mathlib.Nat.{div-add-mod', mod-eq_of_lt, mod-lt, mod-mod}
use native.Mathlib.Omega.{arith}
use lib.IntN.{ℤ, pos, negsuc, neg_ℤ, sub_ℕ, ◌+ℤ◌, ◌-ℤ◌, ◌*ℤ◌}
use lib.Pow.{pow_pos, suc_ones}
use borrow.Author.Tests.{lt-ltb, le-ltb}
use Rattle.arithmetic.specs.declared.Arithmetic.TheVariants.{Sub, Mul}
use Rattle.arithmetic.specs.declared.Division.TheVariants.{Sdiv, Srem}
use Rattle.arithmetic.specs.Signed.{signed, modulo, quotient}
use Rattle.arithmetic.specs.Arithmetic.{computed, divided}
use Rattle.arithmetic.proofs.Powers.{mod_cong}
use Rattle.arithmetic.proofs.SignedLaws.{signed_low, signed_high}

-- sums and products of numbers with the same remainders
cong_add : (n x x' y y' : ℕ) → x % n ≡ x' % n → y % n ≡ y' % n → (x + y) % n ≡ (x' + y') % n
cong_add n x x' y y' e f =
    mod_cong n (x' / n + y' / n) (x / n + y / n) _ _ (omega (arith, div-add-mod' x n, div-add-mod' x' n, div-add-mod' y n, div-add-mod' y' n))

cong_mul : (n x x' y y' : ℕ) → x % n ≡ x' % n → y % n ≡ y' % n → (x * y) % n ≡ (x' * y') % n
cong_mul n x x' y y' e f = half x y ∙ ap₂ (λ (a b : ℕ). a * b % n) e f ∙ sym (half x' y')
  where
    half : (x y : ℕ) → x * y % n ≡ (x % n * (y % n)) % n
    half x y =
        ap₂ (λ (a b : ℕ). a * b % n) (sym (div-add-mod' x n)) (sym (div-add-mod' y n))
        ∙ mod_cong n 0 (x / n * (y / n) * n + x / n * (y % n) + x % n * (y / n)) ((x / n * n + x % n) * (y / n * n + y % n)) (x % n * (y % n)) (omega arith)

-- an integer as a number, where -1 is m and the modulus suc m
module _ (m : ℕ) where
  lift : ℤ → ℕ
  lift (pos a) = a
  lift (negsuc a) = suc a * m

  lift_neg : (n : ℕ) → lift (neg_ℤ (pos n)) ≡ n * m
  unfolding lift
  lift_neg zero = omega arith
  lift_neg (suc n) = refl

  square : (c : ℕ) → (c * m * m) % suc m ≡ c % suc m
  square c = mod_cong (suc m) c (c * m) (c * m * m) c (omega arith)

  lift_mul : (x y : ℤ) → lift (x *ℤ y) % suc m ≡ (lift x * lift y) % suc m
  unfolding lift
  lift_mul (pos a) (pos b) = refl
  lift_mul (pos a) (negsuc b) = ap (λ (z : ℕ). z % suc m) (lift_neg (a * suc b) ∙ omega arith)
  lift_mul (negsuc a) (pos b) = ap (λ (z : ℕ). z % suc m) (lift_neg (suc a * b) ∙ omega arith)
  lift_mul (negsuc a) (negsuc b) = sym (square (suc a * suc b)) ∙ ap (λ (z : ℕ). z % suc m) (omega arith)

  lift_sub : (a b : ℕ) → lift (sub_ℕ a b) % suc m ≡ (a + b * m) % suc m
  unfolding lift
  lift_sub a b = elim (dec_lt a b) [
    | yes h ↦ rw (lt-ltb a b h) (mod_cong (suc m) a 0 (suc (b - suc a) * m) (a + b * m) (let e : b ≡ suc (b - suc a) + a = omega arith in omega (arith, ap (λ (z : ℕ). z * m) e)))
    | no h ↦ rw (le-ltb a b (omega arith)) (mod_cong (suc m) b 0 (a - b) (a + b * m) (omega arith))
  ]

  lift_add : (x y : ℤ) → lift (x +ℤ y) % suc m ≡ (lift x + lift y) % suc m
  unfolding lift
  lift_add (pos a) (pos b) = refl
  lift_add (pos a) (negsuc b) = lift_sub a (suc b)
  lift_add (negsuc a) (pos b) = lift_sub b (suc a) ∙ ap (λ (z : ℕ). z % suc m) (omega arith)
  lift_add (negsuc a) (negsuc b) = ap (λ (z : ℕ). z % suc m) (omega arith)

  lift_minus : (x : ℤ) → lift (neg_ℤ x) % suc m ≡ (lift x * m) % suc m
  unfolding lift
  lift_minus (pos a) = ap (λ (z : ℕ). z % suc m) (lift_neg a)
  lift_minus (negsuc a) = sym (square (suc a))

  -- the remainder of a lift, as `modulo` has it
  lift_mod : (a : ℕ) → (suc a * m) % suc m ≡ m - a % suc m
  lift_mod a =
      let l : a % suc m < suc m = mod-lt a (omega arith) in
      let e : a / suc m * suc m + a % suc m ≡ a = div-add-mod' a (suc m) in
      mod_cong (suc m) 0 (a / suc m * m + a % suc m) (suc a * m) (m - a % suc m) (omega (arith, ap (λ (z : ℕ). z * m) e))
      ∙ mod-eq_of_lt (omega arith)

-- an integer modulo 2 ^ k is the remainder of its lift
modulo_lift : (k : ℕ) (z : ℤ) → modulo k z ≡ lift (2 ^ k - 1) z % 2 ^ k
unfolding modulo lift
modulo_lift k (pos a) = refl
modulo_lift k (negsuc a) = sym (subst (λ (n : ℕ). (suc a * (2 ^ k - 1)) % n ≡ 2 ^ k - 1 - a % n) (suc_ones k) (lift_mod (2 ^ k - 1) a))

lift_modulo : (k : ℕ) (z : ℤ) → lift (2 ^ k - 1) z % 2 ^ k ≡ modulo k z % 2 ^ k
lift_modulo k z = sym (ap (λ (n : ℕ). n % 2 ^ k) (modulo_lift k z) ∙ mod-mod (lift (2 ^ k - 1) z) (2 ^ k))

-- a law of lifts, at 2 ^ k
at_pow : (k : ℕ) (x y : ℕ → ℕ) → ((m : ℕ) → x m % suc m ≡ y m % suc m) → x (2 ^ k - 1) % 2 ^ k ≡ y (2 ^ k - 1) % 2 ^ k
at_pow k x y f = subst (λ (n : ℕ). x (2 ^ k - 1) % n ≡ y (2 ^ k - 1) % n) (suc_ones k) (f (2 ^ k - 1))

pub modulo_lt : (k : ℕ) (z : ℤ) → modulo k z < 2 ^ k
modulo_lt k z = rw (modulo_lift k z) (mod-lt (lift (2 ^ k - 1) z) (pow_pos k))

modulo-mul : (k : ℕ) (x y : ℤ) → modulo k (x *ℤ y) ≡ computed Mul k (modulo k x) (modulo k y)
unfolding computed
modulo-mul k x y =
    modulo_lift k (x *ℤ y)
    ∙ at_pow k (λ m. lift m (x *ℤ y)) (λ m. lift m x * lift m y) (λ m. lift_mul m x y)
    ∙ cong_mul (2 ^ k) (lift (2 ^ k - 1) x) (modulo k x) (lift (2 ^ k - 1) y) (modulo k y) (lift_modulo k x) (lift_modulo k y)

modulo-sub : (k : ℕ) (x y : ℤ) → modulo k (x -ℤ y) ≡ computed Sub k (modulo k x) (modulo k y)
unfolding computed
modulo-sub k x y =
    modulo_lift k (x -ℤ y)
    ∙ at_pow k (λ m. lift m (x -ℤ y)) (λ m. lift m x + lift m (neg_ℤ y)) (λ m. lift_add m x (neg_ℤ y))
    ∙ cong_add (2 ^ k) (lift (2 ^ k - 1) x) (modulo k x) (lift (2 ^ k - 1) (neg_ℤ y)) (2 ^ k - modulo k y) (lift_modulo k x) negated
    ∙ ap (λ (n : ℕ). n % 2 ^ k) (omega (arith, modulo_lt k y))
  where
    other : (modulo k y * (2 ^ k - 1)) % 2 ^ k ≡ (2 ^ k - modulo k y) % 2 ^ k
    other =
        let e : 2 ^ k ≡ 2 ^ k - 1 + 1 = omega (arith, pow_pos k) in
        mod_cong (2 ^ k) 1 (modulo k y) (modulo k y * (2 ^ k - 1)) (2 ^ k - modulo k y) (omega (arith, modulo_lt k y, ap (λ (n : ℕ). modulo k y * n) e))

    negated : lift (2 ^ k - 1) (neg_ℤ y) % 2 ^ k ≡ (2 ^ k - modulo k y) % 2 ^ k
    negated =
        at_pow k (λ m. lift m (neg_ℤ y)) (λ m. lift m y * m) (λ m. lift_minus m y)
        ∙ cong_mul (2 ^ k) (lift (2 ^ k - 1) y) (modulo k y) (2 ^ k - 1) (2 ^ k - 1) (lift_modulo k y) refl
        ∙ other

-- the signed reading, back to a number of k bits
pub modulo-signed : (k a : ℕ) → a < 2 ^ k → modulo k (signed k a) ≡ a
unfolding modulo
modulo-signed k a h = elim (dec_lt a (2 ^ (k - 1))) [
  | yes p ↦ rw (signed_low k a p) (mod-eq_of_lt h)
  | no p ↦ let l : 2 ^ k - suc a < 2 ^ k = omega arith in rw (signed_high k a (omega arith) h, mod-eq_of_lt l) (omega arith)
]

-- the signed remainder by operators on k bits
pub srem_is : (k a b : ℕ) → a < 2 ^ k → b < 2 ^ k → divided Srem k a b ≡ computed Sub k a (computed Mul k (divided Sdiv k a b) b)
unfolding divided
srem_is k a b ha hb =
    let q = quotient (signed k a) (signed k b) in
    modulo-sub k (signed k a) (q *ℤ signed k b)
    ∙ ap₂ (computed Sub k) (modulo-signed k a ha) (modulo-mul k q (signed k b) ∙ ap (computed Mul k (modulo k q)) (modulo-signed k b hb))
