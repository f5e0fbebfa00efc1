-- Chains: the last variable of a bucket, one variable more, and a walk along a chain. Assumes nothing.
use Prim.Native.Nat.{ℕ, zero, suc, ◌+◌, ◌-◌, ◌≤◌, ◌<◌}
use mathlib.Core.Path.{◌≡◌, refl, ap, sym, ◌∙◌}
use mathlib.Core.Bool.{Bool, false}
use native.Mathlib.Numerals.{add-one}
use native.Mathlib.Decide.{dec_lt, ℕ_discrete}
use native.Mathlib.Omega.{arith}
use borrow.Author.Tests.{eq-eqb, ne_eqb}
use Rattle.store.specs.Hash.{buckets}
use Rattle.store.specs.Names.{last_below, Chained}

-- ---- the last variable below n that has bucket b
module _ (f : ℕ → ℕ) (b : ℕ) where
  pub last_none : last_below f b 0 ≡ 0
  unfolding last_below
  last_none = refl

  last_here : (m : ℕ) → f m ≡ b → last_below f b (suc m) ≡ suc m
  unfolding last_below
  last_here m e = rw (eq-eqb (f m) b e)

  last_other : (m : ℕ) → (f m ≡ b → ⊥) → last_below f b (suc m) ≡ last_below f b m
  unfolding last_below
  last_other m e = rw (ne_eqb (f m) b e)

  pub last_le : (n : ℕ) → last_below f b n ≤ n
  last_le zero = omega (arith, last_none)
  last_le (suc n) = elim (ℕ_discrete (f n) b) [
    | yes e ↦ omega (arith, last_here n e)
    | no e ↦ omega (arith, last_other n e, last_le n)
  ]

  -- it is the last below the place behind it
  last_last : (n : ℕ) → last_below f b (last_below f b n) ≡ last_below f b n
  last_last zero = rw last_none last_none
  last_last (suc n) = elim (ℕ_discrete (f n) b) [
    | yes e ↦ rw (last_here n e) (last_here n e)
    | no e ↦ rw (last_other n e) (last_last n)
  ]

  -- no variable above it has the bucket
  last_above : (n w : ℕ) → w < n → f w ≡ b → w < last_below f b n
  last_above zero w h e = let z : ⊥ = omega arith in absurd z
  last_above (suc n) w h e = elim (ℕ_discrete (f n) b) [
    | yes d ↦ omega (arith, last_here n d)
    | no d ↦ elim (dec_lt w n) [
      | yes p ↦ omega (arith, last_other n d, last_above n w p e)
      | no p ↦ let q : n ≡ w = omega arith in absurd (d (ap f q ∙ e))
    ]
  ]

  -- it has the bucket
  last_bucket : (v : ℕ) → last_below f b (suc v) ≡ suc v → f v ≡ b
  last_bucket v h = elim (ℕ_discrete (f v) b) [
    | yes e ↦ e
    | no e ↦ let z : ⊥ = omega (arith, last_other v e, last_le v) in absurd z
  ]

-- only the buckets below n count
last_cong : (f g : ℕ → ℕ) (b n : ℕ) → ((m : ℕ) → m < n → f m ≡ g m) → last_below f b n ≡ last_below g b n
unfolding last_below
last_cong f g b zero h = refl
last_cong f g b (suc n) h = rw (h n (omega arith), last_cong f g b n (λ m l. h m (omega arith)))

-- ---- variable n in front of the chain of its bucket b
module _ (bucket first next bucket₂ first₂ next₂ : ℕ → ℕ) (n b : ℕ) (chained : Chained bucket first next n) (below : (v : ℕ) → v < n → bucket₂ v ≡ bucket v) (here : bucket₂ n ≡ b) where
  first_more : ((c : ℕ) → (c ≡ b → ⊥) → first₂ c ≡ first c) → first₂ b ≡ n + 1 → (c : ℕ) → c < buckets → first₂ c ≡ last_below bucket₂ c (n + 1)
  first_more others new c h = elim (ℕ_discrete c b) [
    | yes e ↦ rw (e, new, add-one) (sym (last_here bucket₂ b n here))
    | no e ↦ rw add-one (others c e ∙ chained.first_is_last c h ∙ sym (last_other bucket₂ c n (λ d. e (sym d ∙ here)) ∙ last_cong bucket₂ bucket c n below))
  ]

  next_more : b < buckets → ((v : ℕ) → v < n → next₂ v ≡ next v) → next₂ n ≡ first b → (v : ℕ) → v < n + 1 → next₂ v ≡ last_below bucket₂ (bucket₂ v) v
  next_more room olds new v h = elim (dec_lt v n) [
    | yes l ↦ olds v l ∙ chained.next_is_before v l ∙ sym (rw (below v l) (last_cong bucket₂ bucket (bucket v) v (λ m k. below m (omega arith))))
    | no l ↦ let e : v ≡ n = omega arith in rw (e, here) (new ∙ chained.first_is_last b room ∙ sym (last_cong bucket₂ bucket b n below))
  ]

  pub chained_more : b < buckets → ((c : ℕ) → (c ≡ b → ⊥) → first₂ c ≡ first c) → first₂ b ≡ n + 1 → ((v : ℕ) → v < n → next₂ v ≡ next v) → next₂ n ≡ first b → Chained bucket₂ first₂ next₂ (n + 1)
  chained_more room others new olds behind = record {
    first_is_last = first_more others new;
    next_is_before = next_more room olds behind;
  }

-- ---- a walk along the chain of bucket b: at an entry of it or its end, and no variable of it from there on passes the test
pub record Walk (bucket : ℕ → ℕ) (n : ℕ) (test : ℕ → Bool) (b entry : ℕ) : Type 0 where
  pub bound : entry ≤ n
  pub in_chain : last_below bucket b entry ≡ entry
  pub passed : (v : ℕ) → entry ≤ v → v < n → bucket v ≡ b → test v ≡ false

module _ (bucket first next : ℕ → ℕ) (n : ℕ) (chained : Chained bucket first next n) (test : ℕ → Bool) (b : ℕ) where
  pub walk_first : b < buckets → Walk bucket n test b (first b)
  walk_first h = rw (chained.first_is_last b h) record {
    bound = last_le bucket b n;
    in_chain = last_last bucket b n;
    passed = λ v l m e. (let z : ⊥ = omega (arith, last_above bucket b n v m e) in absurd z);
  }

  module _ (k : ℕ) (w : Walk bucket n test b k) (h : 0 < k) where
    -- the variable of the entry has the bucket
    walk_bucket : bucket (k - 1) ≡ b
    walk_bucket = let e : k ≡ suc (k - 1) = omega arith in last_bucket bucket b (k - 1) (rw e at w.in_chain)

    next_is : next (k - 1) ≡ last_below bucket b (k - 1)
    next_is = chained.next_is_before (k - 1) (omega (arith, w.bound)) ∙ rw walk_bucket

    -- the entries fall
    pub walk_less : next (k - 1) < k
    walk_less = omega (arith, next_is, last_le bucket b (k - 1))

    walk_passed : test (k - 1) ≡ false → (v : ℕ) → last_below bucket b (k - 1) ≤ v → v < n → bucket v ≡ b → test v ≡ false
    walk_passed e v l m d = elim (dec_lt v (k - 1)) [
      | yes p ↦ let z : ⊥ = omega (arith, last_above bucket b (k - 1) v p d) in absurd z
      | no p ↦ elim (dec_lt v k) [
        | yes q ↦ let z : v ≡ k - 1 = omega arith in rw z e
        | no q ↦ w.passed v (omega arith) m d
      ]
    ]

    pub walk_next : test (k - 1) ≡ false → Walk bucket n test b (next (k - 1))
    walk_next e = rw next_is record {
      bound = omega (arith, last_le bucket b (k - 1), w.bound);
      in_chain = last_last bucket b (k - 1);
      passed = walk_passed e;
    }
