-- How many elements pass a test. Assumes nothing.
use Prim.Native.Nat.{ℕ, suc, ◌+◌, ◌≤◌, ◌<◌}
use mathlib.Core.Path.{◌≡◌}
use mathlib.Core.Bool.{Bool, true, false, cond}
use mathlib.Core.List.{List, [], ◌∷◌, ◌++◌}
use native.Mathlib.Numerals.{add-one}
use native.Mathlib.Omega.{arith}
use lib.ListN.{length, get_or, drop, drop_of_length-le}
use lib.Seq.{drop-cons}
use Rattle.refusal.specs.Lists.{how_many}

-- 1 where a test passes, else 0
pub one_most : (t : Bool) → cond t 1 0 ≤ 1
one_most true = omega arith
one_most false = omega arith

count_cons : (t : Bool) (k : ℕ) → cond t (suc k) k ≡ cond t 1 0 + k
count_cons true k = omega arith
count_cons false k = omega arith

module _ {A : Type 0} (test : A → Bool) where
  pub many_cons : (x : A) (xs : List A) → how_many test (x ∷ xs) ≡ cond (test x) 1 0 + how_many test xs
  unfolding how_many
  many_cons x xs = count_cons (test x) (how_many test xs)

  pub many_append : (xs ys : List A) → how_many test (xs ++ ys) ≡ how_many test xs + how_many test ys
  unfolding how_many
  many_append [] ys = omega arith
  many_append (x ∷ xs) ys = omega (arith, count_cons (test x) (how_many test xs), count_cons (test x) (how_many test (xs ++ ys)), many_append xs ys)

  -- no more than there are
  pub many_most : (xs : List A) → how_many test xs ≤ length xs
  unfolding how_many
  many_most [] = omega arith
  many_most (x ∷ xs) = omega (arith, count_cons (test x) (how_many test xs), one_most (test x), many_most xs)

-- ---- counted from one place to the next
module _ {A : Type 0} (test : A → Bool) (l : List A) (i : ℕ) where
  -- the element at place i, and those behind it
  module _ (d : A) (h : i < length l) where
    pub many_here : test (get_or l i d) ≡ true → how_many test (drop i l) ≡ suc (how_many test (drop (i + 1) l))
    unfolding how_many
    many_here k = rw (drop-cons l i d h, k, add-one i)

    pub many_later : test (get_or l i d) ≡ false → how_many test (drop i l) ≡ how_many test (drop (i + 1) l)
    unfolding how_many
    many_later k = rw (drop-cons l i d h, k, add-one i)

  -- past the last element
  pub many_nowhere : length l ≤ i → how_many test (drop i l) ≡ 0
  unfolding how_many
  many_nowhere h = rw (drop_of_length-le l h)
