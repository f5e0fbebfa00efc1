-- The comparisons that are read off the flags are plain order, of numbers and of signed readings, at every width. Assumes nothing.
-- The signed orders go by a bias: (a + 2 ^ (k - 1)) % 2 ^ k is in the order of the signed readings. Programs compare so.
use mathlib.Core.Path.{◌≡◌, refl, sym, ap, ap₂, ◌∙◌}
use mathlib.Core.Bool.{Bool, true, false, not, ◌&&◌, ◌||◌, xor, beq}
use Prim.Native.Nat.{ℕ, suc, ◌+◌, ◌-◌, ◌*◌, ◌%◌, ◌^◌, ◌≤◌, ◌<◌}
use native.Mathlib.Decide.{dec_lt, ℕ_discrete}
use native.Mathlib.Omega.{arith}
use lib.Dec.{eqb, leb, ltb}
use lib.IntN.{ℤ, pos, negsuc}
use lib.Pow.{pow_pos}
use lib.Signed.{le_z, lt_z}
use borrow.Author.Tests.{lt-ltb, le-ltb, le-leb, lt-leb, eq-eqb, ne_eqb}
use Rattle.arithmetic.specs.declared.Comparison.{Comparison}
use Rattle.arithmetic.specs.declared.Comparison.TheVariants.{Equal, NotEqual, Ule, Uge, Ult, Ugt, Sle, Sge, Slt, Sgt}
use Rattle.arithmetic.specs.Signed.{signed}
use Rattle.arithmetic.specs.Flags.{sum, flag_c, carry_in, flag_v, flag_n, flag_z, compared}
use Rattle.arithmetic.specs.Claims.{ordered}
use Rattle.arithmetic.proofs.Powers.{double, mod_at}
use Rattle.arithmetic.proofs.PlaceLaws.{inverted_is}
use Rattle.arithmetic.proofs.SignedLaws.{signed_low, signed_high}

-- ---- tests on two numbers
not_leb : (a b : ℕ) → not (leb b a) ≡ ltb a b
not_leb a b = elim (dec_lt a b) [
  | yes h ↦ rw (lt-leb b a h, lt-ltb a b h)
  | no h ↦ rw (le-leb b a (omega arith), le-ltb a b (omega arith))
]

not_ltb : (a b : ℕ) → not (ltb a b) ≡ leb b a
not_ltb a b = elim (dec_lt a b) [
  | yes h ↦ rw (lt-leb b a h, lt-ltb a b h)
  | no h ↦ rw (le-leb b a (omega arith), le-ltb a b (omega arith))
]

-- at most is below or equal, and above is at least and not equal
less_or_equal : (a b : ℕ) → (ltb a b || eqb a b) ≡ leb a b
less_or_equal a b = elim (dec_lt a b) [
  | yes h ↦ rw (lt-ltb a b h, le-leb a b (omega arith))
  | no h ↦ rw (le-ltb a b (omega arith)) (elim (ℕ_discrete a b) [
    | yes e ↦ rw (eq-eqb a b e, le-leb a b (omega arith))
    | no n ↦ rw (ne_eqb a b n, lt-leb a b (omega arith))
  ])
]

least_but_equal : (a b : ℕ) → (leb b a && not (eqb a b)) ≡ ltb b a
least_but_equal a b = elim (dec_lt b a) [
  | yes h ↦ rw (lt-ltb b a h, le-leb b a (omega arith), ne_eqb a b (omega arith))
  | no h ↦ rw (le-ltb b a (omega arith)) (elim (ℕ_discrete a b) [
    | yes e ↦ rw (eq-eqb a b e, le-leb b a (omega arith))
    | no n ↦ rw (ne_eqb a b n, lt-leb b a (omega arith))
  ])
]

or_comm : (x y : Bool) → (x || y) ≡ (y || x)
or_comm true true = refl
or_comm true false = refl
or_comm false true = refl
or_comm false false = refl

and_comm : (x y : Bool) → (x && y) ≡ (y && x)
and_comm true true = refl
and_comm true false = refl
and_comm false true = refl
and_comm false false = refl

beq_xor : (x y : Bool) → beq x y ≡ not (xor x y)
unfolding xor
beq_xor true true = refl
beq_xor true false = refl
beq_xor false true = refl
beq_xor false false = refl

-- what the test `leb m n` says
abbrev Is : Bool → ℕ → ℕ → Type 0
Is true m n = m ≤ n
Is false m n = n < m

is_leb : (t : Bool) (m n : ℕ) → Is t m n → leb m n ≡ t
is_leb true m n h = le-leb m n h
is_leb false m n h = lt-leb m n h

-- ---- C and Z
carry_is : (k a b : ℕ) → a < 2 ^ k → b < 2 ^ k → flag_c k a b ≡ leb b a
unfolding flag_c sum
carry_is k a b ha hb = rw (inverted_is k b hb) (elim (dec_lt a b) [
  | yes r ↦ lt-leb (2 ^ k) (a + (2 ^ k - 1 - b) + 1) (omega arith) ∙ sym (lt-leb b a r)
  | no r ↦ le-leb (2 ^ k) (a + (2 ^ k - 1 - b) + 1) (omega arith) ∙ sym (le-leb b a (omega arith))
])

zero_is : (k a b : ℕ) → a < 2 ^ k → b < 2 ^ k → flag_z k a b ≡ eqb a b
unfolding flag_z sum
zero_is k a b ha hb = rw (inverted_is k b hb) (elim (dec_lt a b) [
  | yes r ↦
      let e : (a + (2 ^ k - 1 - b) + 1) % 2 ^ k ≡ a + (2 ^ k - 1 - b) + 1 = mod_at 0 (omega arith) (omega arith) in
      rw e (ne_eqb (a + (2 ^ k - 1 - b) + 1) 0 (omega arith) ∙ sym (ne_eqb a b (omega arith)))
  | no r ↦
      let e : (a + (2 ^ k - 1 - b) + 1) % 2 ^ k ≡ a - b = mod_at 1 (omega arith) (omega arith) in
      rw e (difference a b (omega arith))
])
  where
    difference : (a b : ℕ) → b ≤ a → eqb (a - b) 0 ≡ eqb a b
    difference a b h = elim (ℕ_discrete a b) [
      | yes e ↦ eq-eqb (a - b) 0 (omega arith) ∙ sym (eq-eqb a b e)
      | no n ↦ ne_eqb (a - b) 0 (omega arith) ∙ sym (ne_eqb a b n)
    ]

-- ---- the signed order of a and b, by their top bits: h is 2 ^ (k - 1), m is 2 ^ k
abbrev below : {a b h : ℕ} → Dec (a < h) → Dec (b < h) → Dec (a < b) → Bool
below (yes p) (yes q) (yes r) = true
below (yes p) (yes q) (no r) = false
below (yes p) (no q) z = false
below (no p) (yes q) z = true
below (no p) (no q) (yes r) = true
below (no p) (no q) (no r) = false

-- N xor V
module _ (h m a b : ℕ) where
  abbrev less : Bool
  less = xor (leb h ((a + (m - 1 - b) + 1) % m)) (xor (leb h (a % h + (m - 1 - b) % h + 1)) (leb m (a + (m - 1 - b) + 1)))

  leaf : (s x y : ℕ) (n i c : Bool) → (a + (m - 1 - b) + 1) % m ≡ s → a % h ≡ x → (m - 1 - b) % h ≡ y
      → Is n h s → Is i h (x + y + 1) → Is c m (a + (m - 1 - b) + 1) → less ≡ xor n (xor i c)
  leaf s x y n i c e₁ e₂ e₃ f₁ f₂ f₃ = rw (e₁, e₂, e₃, is_leb n h s f₁, is_leb i h (x + y + 1) f₂, is_leb c m (a + (m - 1 - b) + 1) f₃)

  module _ (e : m ≡ h * 2) (ha : a < m) (hb : b < m) where
    less_by : (x : Dec (a < h)) (y : Dec (b < h)) (z : Dec (a < b)) → less ≡ below x y z
    unfolding xor
    less_by (yes p) (yes q) (yes r) =
        leaf (a + (m - 1 - b) + 1) a (h - 1 - b) true false false (mod_at 0 (omega arith) (omega arith)) (mod_at 0 (omega arith) p) (mod_at 1 (omega arith) (omega arith)) (omega arith) (omega arith) (omega arith)
    less_by (yes p) (yes q) (no r) =
        leaf (a - b) a (h - 1 - b) false true true (mod_at 1 (omega arith) (omega arith)) (mod_at 0 (omega arith) p) (mod_at 1 (omega arith) (omega arith)) (omega arith) (omega arith) (omega arith)
    less_by (yes p) (no q) z = elim (dec_lt (a + (m - b)) h) [
      | yes r ↦ leaf (a + (m - 1 - b) + 1) a (m - 1 - b) false false false (mod_at 0 (omega arith) (omega arith)) (mod_at 0 (omega arith) p) (mod_at 0 (omega arith) (omega arith)) (omega arith) (omega arith) (omega arith)
      | no r ↦ leaf (a + (m - 1 - b) + 1) a (m - 1 - b) true true false (mod_at 0 (omega arith) (omega arith)) (mod_at 0 (omega arith) p) (mod_at 0 (omega arith) (omega arith)) (omega arith) (omega arith) (omega arith)
    ]
    less_by (no p) (yes q) z = elim (dec_lt (a - b) h) [
      | yes r ↦ leaf (a - b) (a - h) (h - 1 - b) false false true (mod_at 1 (omega arith) (omega arith)) (mod_at 1 (omega arith) (omega arith)) (mod_at 1 (omega arith) (omega arith)) (omega arith) (omega arith) (omega arith)
      | no r ↦ leaf (a - b) (a - h) (h - 1 - b) true true true (mod_at 1 (omega arith) (omega arith)) (mod_at 1 (omega arith) (omega arith)) (mod_at 1 (omega arith) (omega arith)) (omega arith) (omega arith) (omega arith)
    ]
    less_by (no p) (no q) (yes r) =
        leaf (a + (m - 1 - b) + 1) (a - h) (m - 1 - b) true false false (mod_at 0 (omega arith) (omega arith)) (mod_at 1 (omega arith) (omega arith)) (mod_at 0 (omega arith) (omega arith)) (omega arith) (omega arith) (omega arith)
    less_by (no p) (no q) (no r) =
        leaf (a - b) (a - h) (m - 1 - b) false true true (mod_at 1 (omega arith) (omega arith)) (mod_at 1 (omega arith) (omega arith)) (mod_at 0 (omega arith) (omega arith)) (omega arith) (omega arith) (omega arith)

-- the signed readings
signed_by : (k a b : ℕ) → a < 2 ^ k → b < 2 ^ k → (x : Dec (a < 2 ^ (k - 1))) (y : Dec (b < 2 ^ (k - 1))) (z : Dec (a < b)) → lt_z (signed k a) (signed k b) ≡ below x y z
signed_by k a b ha hb (yes p) (yes q) (yes r) = rw (signed_low k a p, signed_low k b q) (lt-ltb a b r)
signed_by k a b ha hb (yes p) (yes q) (no r) = rw (signed_low k a p, signed_low k b q) (le-ltb a b (omega arith))
signed_by k a b ha hb (yes p) (no q) z = rw (signed_low k a p, signed_high k b (omega arith) hb)
signed_by k a b ha hb (no p) (yes q) z = rw (signed_high k a (omega arith) ha, signed_low k b q)
signed_by k a b ha hb (no p) (no q) (yes r) = rw (signed_high k a (omega arith) ha, signed_high k b (omega arith) hb) (lt-ltb (2 ^ k - suc b) (2 ^ k - suc a) (omega arith))
signed_by k a b ha hb (no p) (no q) (no r) = rw (signed_high k a (omega arith) ha, signed_high k b (omega arith) hb) (le-ltb (2 ^ k - suc b) (2 ^ k - suc a) (omega arith))

-- ---- the bias: half the numbers down, half up
abbrev pub biased : ℕ → ℕ → ℕ
biased k a = (a + 2 ^ (k - 1)) % 2 ^ k

module _ (k a : ℕ) (hk : 1 ≤ k) (ha : a < 2 ^ k) where
  biased_low : a < 2 ^ (k - 1) → biased k a ≡ a + 2 ^ (k - 1)
  biased_low p = mod_at 0 (omega arith) (omega (arith, double k hk))

  biased_high : ¬ (a < 2 ^ (k - 1)) → biased k a ≡ a - 2 ^ (k - 1)
  biased_high p = mod_at 1 (omega (arith, double k hk)) (omega (arith, pow_pos (k - 1)))

module _ (k a b : ℕ) (hk : 1 ≤ k) (ha : a < 2 ^ k) (hb : b < 2 ^ k) where
  biased_by : (x : Dec (a < 2 ^ (k - 1))) (y : Dec (b < 2 ^ (k - 1))) (z : Dec (a < b)) → ltb (biased k a) (biased k b) ≡ below x y z
  biased_by (yes p) (yes q) (yes r) = rw (biased_low k a hk ha p, biased_low k b hk hb q) (lt-ltb (a + 2 ^ (k - 1)) (b + 2 ^ (k - 1)) (omega arith))
  biased_by (yes p) (yes q) (no r) = rw (biased_low k a hk ha p, biased_low k b hk hb q) (le-ltb (a + 2 ^ (k - 1)) (b + 2 ^ (k - 1)) (omega arith))
  biased_by (yes p) (no q) z = rw (biased_low k a hk ha p, biased_high k b hk hb q) (le-ltb (a + 2 ^ (k - 1)) (b - 2 ^ (k - 1)) (omega (arith, double k hk)))
  biased_by (no p) (yes q) z = rw (biased_high k a hk ha p, biased_low k b hk hb q) (lt-ltb (a - 2 ^ (k - 1)) (b + 2 ^ (k - 1)) (omega (arith, double k hk)))
  biased_by (no p) (no q) (yes r) = rw (biased_high k a hk ha p, biased_high k b hk hb q) (lt-ltb (a - 2 ^ (k - 1)) (b - 2 ^ (k - 1)) (omega arith))
  biased_by (no p) (no q) (no r) = rw (biased_high k a hk ha p, biased_high k b hk hb q) (le-ltb (a - 2 ^ (k - 1)) (b - 2 ^ (k - 1)) (omega arith))

  biased_lt : ltb (biased k a) (biased k b) ≡ lt_z (signed k a) (signed k b)
  biased_lt =
      let x = dec_lt a (2 ^ (k - 1)) in
      let y = dec_lt b (2 ^ (k - 1)) in
      let z = dec_lt a b in
      biased_by x y z ∙ sym (signed_by k a b ha hb x y z)

  less_is : xor (flag_n k a b) (flag_v k a b) ≡ ltb (biased k a) (biased k b)
  unfolding flag_n flag_v flag_c carry_in sum
  less_is =
      let x = dec_lt a (2 ^ (k - 1)) in
      let y = dec_lt b (2 ^ (k - 1)) in
      let z = dec_lt a b in
      rw (inverted_is k b hb) (less_by (2 ^ (k - 1)) (2 ^ k) a b (double k hk) ha hb x y z ∙ sym (biased_by x y z))

-- equal numbers are equally biased
biased_eq : (k a b : ℕ) → 1 ≤ k → a < 2 ^ k → b < 2 ^ k → eqb a b ≡ eqb (biased k a) (biased k b)
biased_eq k a b hk ha hb = elim (ℕ_discrete a b) [
  | yes e ↦ eq-eqb a b e ∙ sym (eq-eqb (biased k a) (biased k b) (ap (biased k) e))
  | no n ↦ ne_eqb a b n ∙ sym (ne_eqb (biased k a) (biased k b) (λ e. n (same (dec_lt a (2 ^ (k - 1))) (dec_lt b (2 ^ (k - 1))) e)))
]
  where
    same : Dec (a < 2 ^ (k - 1)) → Dec (b < 2 ^ (k - 1)) → biased k a ≡ biased k b → a ≡ b
    same (yes p) (yes q) e = omega (arith, biased_low k a hk ha p, biased_low k b hk hb q)
    same (yes p) (no q) e = omega (arith, biased_low k a hk ha p, biased_high k b hk hb q, double k hk)
    same (no p) (yes q) e = omega (arith, biased_high k a hk ha p, biased_low k b hk hb q, double k hk)
    same (no p) (no q) e = omega (arith, biased_high k a hk ha p, biased_high k b hk hb q)

not_lt_z : (x y : ℤ) → not (lt_z x y) ≡ le_z y x
not_lt_z (pos a) (pos b) = not_ltb a b
not_lt_z (pos a) (negsuc b) = refl
not_lt_z (negsuc a) (pos b) = refl
not_lt_z (negsuc a) (negsuc b) = not_ltb b a

biased_le : (k a b : ℕ) → 1 ≤ k → a < 2 ^ k → b < 2 ^ k → leb (biased k a) (biased k b) ≡ le_z (signed k a) (signed k b)
biased_le k a b hk ha hb =
    sym (not_ltb (biased k b) (biased k a)) ∙ ap not (biased_lt k b a hk hb ha) ∙ not_lt_z (signed k b) (signed k a)

-- ---- the comparisons, as programs compute them
abbrev pub biased_order : Comparison → ℕ → ℕ → ℕ → Bool
biased_order Equal k a b = eqb a b
biased_order NotEqual k a b = not (eqb a b)
biased_order Ule k a b = leb a b
biased_order Uge k a b = leb b a
biased_order Ult k a b = ltb a b
biased_order Ugt k a b = ltb b a
biased_order Sle k a b = leb (biased k a) (biased k b)
biased_order Sge k a b = leb (biased k b) (biased k a)
biased_order Slt k a b = ltb (biased k a) (biased k b)
biased_order Sgt k a b = ltb (biased k b) (biased k a)

module _ (k a b : ℕ) (hk : 1 ≤ k) (ha : a < 2 ^ k) (hb : b < 2 ^ k) where
  -- the formulas over the flags
  pub compared_is : (o : Comparison) → compared o k a b ≡ biased_order o k a b
  unfolding compared
  compared_is Equal = zero_is k a b ha hb
  compared_is NotEqual = ap not (zero_is k a b ha hb)
  compared_is Ule = ap₂ ◌||◌ (ap not (carry_is k a b ha hb) ∙ not_leb a b) (zero_is k a b ha hb) ∙ less_or_equal a b
  compared_is Uge = carry_is k a b ha hb
  compared_is Ult = ap not (carry_is k a b ha hb) ∙ not_leb a b
  compared_is Ugt = ap₂ ◌&&◌ (carry_is k a b ha hb) (ap not (zero_is k a b ha hb)) ∙ least_but_equal a b
  compared_is Sle =
      ap₂ ◌||◌ (zero_is k a b ha hb ∙ biased_eq k a b hk ha hb) (less_is k a b hk ha hb)
      ∙ or_comm (eqb (biased k a) (biased k b)) (ltb (biased k a) (biased k b))
      ∙ less_or_equal (biased k a) (biased k b)
  compared_is Sge = beq_xor (flag_n k a b) (flag_v k a b) ∙ ap not (less_is k a b hk ha hb) ∙ not_ltb (biased k a) (biased k b)
  compared_is Slt = less_is k a b hk ha hb
  compared_is Sgt =
      ap₂ ◌&&◌ (ap not (zero_is k a b ha hb ∙ biased_eq k a b hk ha hb)) (beq_xor (flag_n k a b) (flag_v k a b) ∙ ap not (less_is k a b hk ha hb) ∙ not_ltb (biased k a) (biased k b))
      ∙ and_comm (not (eqb (biased k a) (biased k b))) (leb (biased k b) (biased k a))
      ∙ least_but_equal (biased k a) (biased k b)

  -- plain order
  ordered_is : (o : Comparison) → biased_order o k a b ≡ ordered o k a b
  unfolding ordered
  ordered_is Equal = refl
  ordered_is NotEqual = refl
  ordered_is Ule = refl
  ordered_is Uge = refl
  ordered_is Ult = refl
  ordered_is Ugt = refl
  ordered_is Sle = biased_le k a b hk ha hb
  ordered_is Sge = biased_le k b a hk hb ha
  ordered_is Slt = biased_lt k a b hk ha hb
  ordered_is Sgt = biased_lt k b a hk hb ha

pub orders : (o : Comparison) (k a b : ℕ) → 1 ≤ k → a < 2 ^ k → b < 2 ^ k → compared o k a b ≡ ordered o k a b
orders o k a b hk ha hb = compared_is k a b hk ha hb o ∙ ordered_is k a b hk ha hb o
