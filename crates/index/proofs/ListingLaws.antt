-- A line's number put into the lists of the variables that it names. Assumes nothing.
use Prim.Native.Nat.{ℕ, ◌+◌, ◌≤◌, ◌<◌}
use mathlib.Core.Path.{◌≡◌, refl, ◌∙◌}
use mathlib.Core.Bool.{Bool}
use mathlib.Core.List.{List}
use native.Mathlib.Decide.{ℕ_discrete}
use native.Mathlib.Omega.{arith}
use lib.Dec.{eqb}
use lib.ListN.{length, get_or, set, length-set}
use lib.Seq.{get_or-set_same, get_or-set_other}
use borrow.Author.Tests.{eq-eqb, ne_eqb}
use Rattle.refusal.proofs.ManyLaws.{one_most}
use Rattle.index.specs.declared.LineVariables.{LineVariables}
use Rattle.index.specs.Internal.{one, times_named, ListRoom, LinePut}
use Rattle.index.proofs.TallyLaws.{one_more}

-- ---- into one list
one_here : (i q : ℕ) → 0 < one (eqb q i) → q ≡ i
one_here i q h = elim (ℕ_discrete q i) [
  | yes e ↦ e
  | no d ↦ let z : ⊥ = omega (arith, rw (ne_eqb q i d) at h) in absurd z
]

module _ (n i x : ℕ) (next lists : List ℕ) where
  pub listed_none : n ≤ i → LinePut n (λ q. one (eqb q i)) x next lists next lists
  listed_none h = record {
    next_long = refl;
    lists_long = refl;
    moved = λ q l. rw (ne_eqb q i (omega arith)) (omega arith);
    put = λ q l k. let z : ⊥ = omega (arith, one_here i q k) in absurd z;
    same = λ p e. e;
    other = λ p k. refl;
  }

  module _ (h : i < n) (l : i < length next) (r : get_or next i 0 < length lists) where
    one_same : (p : ℕ) → get_or lists p 0 ≡ x → get_or (set lists (get_or next i 0) x) p 0 ≡ x
    one_same p e = elim (ℕ_discrete p (get_or next i 0)) [
      | yes q ↦ rw q (get_or-set_same lists (get_or next i 0) x 0 r)
      | no d ↦ get_or-set_other lists (get_or next i 0) p x 0 d ∙ e
    ]

    pub listed_one : LinePut n (λ q. one (eqb q i)) x next lists (set next i (get_or next i 0 + 1)) (set lists (get_or next i 0) x)
    listed_one = record {
      next_long = length-set next i (get_or next i 0 + 1);
      lists_long = length-set lists (get_or next i 0) x;
      moved = λ q k. one_more next i l q;
      put = λ q k g. rw (one_here i q g) (get_or-set_same lists (get_or next i 0) x 0 r);
      same = one_same;
      other = λ p k. get_or-set_other lists (get_or next i 0) p x 0 (k i h (rw (eq-eqb i i refl) (omega arith)));
    }

-- ---- into more lists, each once
module _ (n x : ℕ) (s t : ℕ → ℕ) (next lists next₂ lists₂ : List ℕ) (a : LinePut n s x next lists next₂ lists₂) (once : (i : ℕ) → i < n → s i + t i ≤ 1) where
  -- what is not named yet has not moved
  still : (i : ℕ) → i < n → 0 < t i → get_or next₂ i 0 ≡ get_or next i 0
  still i h k = omega (arith, a.moved i h, once i h)

  room_then : ListRoom n (λ i. s i + t i) next lists → ListRoom n t next₂ lists₂
  room_then r i h k = let z = r i h (omega arith) in (omega (arith, still i h k, a.lists_long), omega (arith, still i h k))

  module _ (next₃ lists₃ : List ℕ) (b : LinePut n t x next₂ lists₂ next₃ lists₃) where
    then_put : (i : ℕ) → i < n → 0 < s i + t i → get_or lists₃ (get_or next i 0) 0 ≡ x
    then_put i h k = elim (ℕ_discrete (t i) 0) [
      | yes e ↦ b.same (get_or next i 0) (a.put i h (omega arith))
      | no d ↦ rw (still i h (omega arith)) at (b.put i h (omega arith))
    ]

    listed_then : LinePut n (λ i. s i + t i) x next lists next₃ lists₃
    listed_then = record {
      next_long = b.next_long ∙ a.next_long;
      lists_long = b.lists_long ∙ a.lists_long;
      moved = λ i h. omega (arith, a.moved i h, b.moved i h);
      put = then_put;
      same = λ p e. b.same p (a.same p e);
      other = λ p k. b.other p (λ i h l e. k i h (omega arith) (e ∙ still i h l)) ∙ a.other p (λ i h l e. k i h (omega arith) e);
    }

-- ---- by another count of the same
module _ (n x : ℕ) (s t : ℕ → ℕ) (e : (i : ℕ) → i < n → s i ≡ t i) (next lists : List ℕ) where
  room_alike : ListRoom n t next lists → ListRoom n s next lists
  room_alike r i h k = r i h (omega (arith, e i h))

  listed_alike : (next₂ lists₂ : List ℕ) → LinePut n s x next lists next₂ lists₂ → LinePut n t x next lists next₂ lists₂
  listed_alike next₂ lists₂ a = record {
    next_long = a.next_long;
    lists_long = a.lists_long;
    moved = λ i h. omega (arith, a.moved i h, e i h);
    put = λ i h k. a.put i h (omega (arith, e i h));
    same = a.same;
    other = λ p k. a.other p (λ i h l q. k i h (omega (arith, e i h)) q);
  }

-- ---- the four variables of a line
module _ (n x : ℕ) (r : LineVariables) (t : ℕ → Bool) (e : (i : ℕ) → i < n → times_named i r ≡ one (t i)) where
  -- the first of them, two, and three
  abbrev s₁ : ℕ → ℕ
  s₁ i = one (eqb i r.output)

  abbrev s₂ : ℕ → ℕ
  s₂ i = s₁ i + one (eqb i r.first)

  abbrev s₃ : ℕ → ℕ
  s₃ i = s₂ i + one (eqb i r.second)

  -- no variable is named twice
  once : (i : ℕ) → i < n → times_named i r ≤ 1
  once i h = omega (arith, e i h, one_most (t i))

  module _ (next lists : List ℕ) (room : ListRoom n (λ i. one (t i)) next lists) where
    all : ListRoom n (λ i. times_named i r) next lists
    all = room_alike n x (λ i. times_named i r) (λ i. one (t i)) e next lists room

    pub room_first : ListRoom n (λ i. one (eqb i r.output)) next lists
    room_first i h k = all i h (omega arith)

    module _ (next₁ lists₁ : List ℕ) (a : LinePut n (λ i. one (eqb i r.output)) x next lists next₁ lists₁) where
      pub room_second : ListRoom n (λ i. one (eqb i r.first)) next₁ lists₁
      room_second = room_then n x s₁ (λ i. one (eqb i r.first)) next lists next₁ lists₁ a (λ i h. omega (arith, once i h)) (λ i h k. all i h (omega arith))

      module _ (next₂ lists₂ : List ℕ) (b : LinePut n (λ i. one (eqb i r.first)) x next₁ lists₁ next₂ lists₂) where
        two : LinePut n s₂ x next lists next₂ lists₂
        two = listed_then n x s₁ (λ i. one (eqb i r.first)) next lists next₁ lists₁ a (λ i h. omega (arith, once i h)) next₂ lists₂ b

        pub room_third : ListRoom n (λ i. one (eqb i r.second)) next₂ lists₂
        room_third = room_then n x s₂ (λ i. one (eqb i r.second)) next lists next₂ lists₂ two (λ i h. omega (arith, once i h)) (λ i h k. all i h (omega arith))

        module _ (next₃ lists₃ : List ℕ) (c : LinePut n (λ i. one (eqb i r.second)) x next₂ lists₂ next₃ lists₃) where
          three : LinePut n s₃ x next lists next₃ lists₃
          three = listed_then n x s₂ (λ i. one (eqb i r.second)) next lists next₂ lists₂ two (λ i h. omega (arith, once i h)) next₃ lists₃ c

          pub room_fourth : ListRoom n (λ i. one (eqb i r.third)) next₃ lists₃
          room_fourth = room_then n x s₃ (λ i. one (eqb i r.third)) next lists next₃ lists₃ three once all

          pub listed_line : (next₄ lists₄ : List ℕ) → LinePut n (λ i. one (eqb i r.third)) x next₃ lists₃ next₄ lists₄ → LinePut n (λ i. one (t i)) x next lists next₄ lists₄
          listed_line next₄ lists₄ d =
              listed_alike n x (λ i. times_named i r) (λ i. one (t i)) e next lists next₄ lists₄
              (listed_then n x s₃ (λ i. one (eqb i r.third)) next lists next₃ lists₃ three once next₄ lists₄ d)
