-- Elements that pass a test: all of them, the first of them; things that are there or not; what is made of each element, at a place and joined. Assumes nothing.
use Prim.Native.Nat.{ℕ, zero, suc, ◌+◌, ◌≤◌, ◌<◌}
use mathlib.Core.Path.{◌≡◌, refl, ◌∙◌}
use mathlib.Core.Bool.{Bool, true, false, not, cond}
use mathlib.Core.List.{List, [], ◌∷◌, ◌++◌, map, flat_map, nil≢cons, cons≢nil, head-eq_of_cons-eq, tail-eq_of_cons-eq, map-append}
use Rattle.std.specs.Prelude.{Option, None, Some}
use native.Mathlib.Nat.{add-zero}
use native.Mathlib.Numerals.{add-one}
use native.Mathlib.Omega.{arith}
use lib.Dec.{eqb}
use lib.ListN.{length, get_or, drop, drop_of_length-le}
use lib.Seq.{drop-cons}
use borrow.Author.Tests.{eqb-true}
use Rattle.std.specs.Prelude.{is_some}
use Rattle.refusal.specs.Lists.{first_from, every, is_one_of}
use Rattle.refusal.proofs.ResultLaws.{never}
use Rattle.refusal.proofs.BoolLaws.{and_false, and_true}

-- a thing that is not there
pub not_there : {A : Type 0} (o : Option A) → not (is_some o) ≡ true → o ≡ None
not_there None e = refl
not_there (Some a) e = never (cc e)

-- one that is there only where a test passes
pub cond_some : {A : Type 0} (t : Bool) (o : Option A) (a : A) → cond t o None ≡ Some a → (t ≡ true) × (o ≡ Some a)
cond_some true o a e = (refl, e)
cond_some false o a e = never (cc e)

-- no first: the element in front fails, and there is no first behind it
no_first : (t : Bool) (n : ℕ) (rest : Option ℕ) → cond t (Some n) rest ≡ None → (t ≡ false) × (rest ≡ None)
no_first true n rest e = never (cc e)
no_first false n rest e = (refl, e)

pub first_none : {A : Type 0} (test : A → Bool) (n : ℕ) (x : A) (xs : List A) → first_from test n (x ∷ xs) ≡ None → (test x ≡ false) × (first_from test (suc n) xs ≡ None)
unfolding first_from
first_none test n x xs = no_first (test x) n (first_from test (suc n) xs)

-- a first is one of the elements
below : (t : Bool) (n i k : ℕ) (rest : Option ℕ) → (rest ≡ Some i → i < suc n + k) → cond t (Some n) rest ≡ Some i → i < n + suc k
below true n i k rest h e = let z : n ≡ i = cc e in omega arith
below false n i k rest h e = let z = h e in omega arith

pub first_below : {A : Type 0} (test : A → Bool) (n i : ℕ) (xs : List A) → first_from test n xs ≡ Some i → i < n + length xs
unfolding first_from
first_below test n i [] e = never (cc e)
first_below test n i (x ∷ xs) e = below (test x) n i (length xs) (first_from test (suc n) xs) (first_below test (suc n) i xs) e

-- counted from n, a first is not before n
not_before : (t : Bool) (n i : ℕ) (rest : Option ℕ) → (rest ≡ Some i → suc n ≤ i) → cond t (Some n) rest ≡ Some i → n ≤ i
not_before true n i rest h e = let z : n ≡ i = cc e in omega arith
not_before false n i rest h e = let z = h e in omega arith

pub first_from_lem : {A : Type 0} (test : A → Bool) (n i : ℕ) (xs : List A) → first_from test n xs ≡ Some i → n ≤ i
unfolding first_from
first_from_lem test n i [] e = never (cc e)
first_from_lem test n i (x ∷ xs) e = not_before (test x) n i (first_from test (suc n) xs) (first_from_lem test (suc n) i xs) e

-- a list with no first leaves it to what stands behind
pub first_behind : {A : Type 0} (test : A → Bool) (n : ℕ) (xs ys : List A) → first_from test n xs ≡ None → first_from test n (xs ++ ys) ≡ first_from test (n + length xs) ys
unfolding first_from
first_behind test n [] ys e = rw add-zero
first_behind test n (x ∷ xs) ys e =
    let h = first_none test n x xs e in
    let k : suc n + length xs ≡ n + suc (length xs) = omega arith in
    rw (h.0, ← k) (first_behind test (suc n) xs ys h.1)

-- ---- found from one place to the next
module _ {A : Type 0} (test : A → Bool) (n : ℕ) (l : List A) (i : ℕ) where
  -- the element at place i, and those behind it
  module _ (d : A) (h : i < length l) where
    pub first_here : test (get_or l i d) ≡ true → first_from test n (drop i l) ≡ Some n
    unfolding first_from
    first_here k = rw (drop-cons l i d h, k)

    pub first_later : test (get_or l i d) ≡ false → first_from test n (drop i l) ≡ first_from test (n + 1) (drop (i + 1) l)
    unfolding first_from
    first_later k = rw (drop-cons l i d h, k, add-one i, add-one n)

  -- past the last element
  pub first_nowhere : length l ≤ i → first_from test n (drop i l) ≡ None
  unfolding first_from
  first_nowhere h = rw (drop_of_length-le l h)

-- the first element that passes a test passes it
passes : (P : ℕ → Type 0) (t : Bool) (n i : ℕ) (rest : Option ℕ) → (t ≡ true → P 0) → (rest ≡ Some i → (k : ℕ) × (i ≡ suc n + k) × P (suc k)) → cond t (Some n) rest ≡ Some i → (k : ℕ) × (i ≡ n + k) × P k
passes P true n i rest here later e = let z : n ≡ i = cc e in (0, omega arith, here refl)
passes P false n i rest here later e = let p = later e in (suc p.0, omega arith, p.2)

pub first_passes : {A : Type 0} (test : A → Bool) (d : A) (n i : ℕ) (xs : List A) → first_from test n xs ≡ Some i → (k : ℕ) × (i ≡ n + k) × (test (get_or xs k d) ≡ true)
unfolding first_from
first_passes test d n i [] e = never (cc e)
first_passes test d n i (x ∷ xs) e = passes (λ k. test (get_or (x ∷ xs) k d) ≡ true) (test x) n i (first_from test (suc n) xs) (λ t. t) (first_passes test d (suc n) i xs) e

-- every element passes, of one list and of another behind it
pub every_append : {A : Type 0} (p : A → Bool) (s t : List A) → every p s ≡ true → every p t ≡ true → every p (s ++ t) ≡ true
unfolding every
every_append p [] t h k = k
every_append p (b ∷ s) t h k = let q = and_true (p b) (every p s) h in rw q.0 (every_append p s t q.1 k)

-- what passes one test passes another
pub every_weaken : {A : Type 0} (p q : A → Bool) → ((a : A) → p a ≡ true → q a ≡ true) → (s : List A) → every p s ≡ true → every q s ≡ true
unfolding every
every_weaken p q f [] h = refl
every_weaken p q f (b ∷ s) h = let z = and_true (p b) (every p s) h in rw (f b z.0) (every_weaken p q f s z.1)

-- where each passes all do, and where all do each does
module _ {A : Type 0} (test : A → Bool) (d : A) where
  pub every_at : (l : List A) → ((i : ℕ) → i < length l → test (get_or l i d) ≡ true) → every test l ≡ true
  unfolding every
  every_at [] h = refl
  every_at (x ∷ l) h = rw (h 0 (omega arith)) (every_at l (λ i q. h (suc i) (omega arith)))

  pub every_get : (l : List A) (i : ℕ) → every test l ≡ true → i < length l → test (get_or l i d) ≡ true
  unfolding every
  every_get [] i e h = let z : ⊥ = omega arith in absurd z
  every_get (x ∷ l) zero e h = (and_true (test x) (every test l) e).0
  every_get (x ∷ l) (suc i) e h = every_get l i (and_true (test x) (every test l) e).1 (omega arith)

  -- from place i to the next
  module _ (l : List A) (i : ℕ) (h : i < length l) where
    pub every_stops : test (get_or l i d) ≡ false → every test (drop i l) ≡ false
    unfolding every
    every_stops k = rw (drop-cons l i d h, k)

    pub every_next : test (get_or l i d) ≡ true → every test (drop i l) ≡ every test (drop (i + 1) l)
    unfolding every
    every_next k = rw (drop-cons l i d h, k, add-one i)

-- one that does not pass
pub every_broken : {A : Type 0} (p : A → Bool) (s : List A) (a : A) (t : List A) → p a ≡ false → every p (s ++ a ∷ t) ≡ false
unfolding every
every_broken p [] a t e = rw e
every_broken p (b ∷ s) a t e = rw (every_broken p s a t e, and_false)

-- a number of a list passes a test that all of them pass
passes_by : (test : ℕ → Bool) (n m k : ℕ) (t : Bool) (rest : Option ℕ) → eqb n m ≡ t → test m ≡ true → (is_some rest ≡ true → test n ≡ true) → is_some (cond t (Some k) rest) ≡ true → test n ≡ true
passes_by test n m k true rest q h later e = rw (eqb-true n m q) h
passes_by test n m k false rest q h later e = later e

found_passes : (test : ℕ → Bool) (n k : ℕ) (ns : List ℕ) → every test ns ≡ true → is_some (first_from (eqb n) k ns) ≡ true → test n ≡ true
unfolding every first_from
found_passes test n k [] h e = never (cc e)
found_passes test n k (m ∷ ns) h e =
    let p = and_true (test m) (every test ns) h in
    passes_by test n m k (eqb n m) (first_from (eqb n) (suc k) ns) refl p.0 (found_passes test n (suc k) ns p.1) e

pub one_passes : (test : ℕ → Bool) (n : ℕ) (ns : List ℕ) → every test ns ≡ true → is_one_of n ns ≡ true → test n ≡ true
unfolding is_one_of
one_passes test n ns = found_passes test n 0 ns

-- what is made of each element, at a place
pub get_or_mapped : {A B : Type 0} (g : A → B) (l : List A) (k : ℕ) (d : A) (e : B) → k < length l → get_or (map g l) k e ≡ g (get_or l k d)
get_or_mapped g [] k d e h = let z : ⊥ = omega arith in absurd z
get_or_mapped g (x ∷ l) zero d e h = refl
get_or_mapped g (x ∷ l) (suc k) d e h = get_or_mapped g l k d e (omega arith)

-- what is made of each element, joined, where the elements' keys decide it; and what is made of that
module _ {A B C : Type 0} where
  pub flat_map_same : {f : A → List C} (key : A → B) → ((x y : A) → key x ≡ key y → f x ≡ f y) → (xs ys : List A) → map key xs ≡ map key ys → flat_map f xs ≡ flat_map f ys
  unfolding flat_map
  flat_map_same key same [] [] e = refl
  flat_map_same key same [] (y ∷ ys) e = absurd (nil≢cons e)
  flat_map_same key same (x ∷ xs) [] e = absurd (cons≢nil e)
  flat_map_same key same (x ∷ xs) (y ∷ ys) e = rw (same x y (head-eq_of_cons-eq e), flat_map_same key same xs ys (tail-eq_of_cons-eq e))

  pub map-flat_map : (f : A → List B) (g : B → C) (xs : List A) → map g (flat_map f xs) ≡ flat_map (λ x. map g (f x)) xs
  unfolding flat_map
  map-flat_map f g [] = refl
  map-flat_map f g (x ∷ xs) = map-append g (f x) (flat_map f xs) ∙ rw (map-flat_map f g xs)
