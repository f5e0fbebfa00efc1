-- A table of entries in use and of what is behind them, of which the first entries are lent. Assumes nothing.
use Prim.Native.Nat.{ℕ, zero, suc, ◌≤◌, min}
use mathlib.Core.Path.{◌≡◌, refl, sym, ap, ◌∙◌}
use mathlib.Core.List.{List, [], ◌∷◌, ◌++◌, append_assoc}
use native.Mathlib.Decide.{dec_lt}
use native.Mathlib.Omega.{arith}
use lib.ListN.{length, get_or, take, drop, length-append, take-append-drop, drop_of_length-le}
use lib.Seq.{length-take-le, take-take, take_at, take_all, take-length, drop_at, drop-length, drop-append-le}

-- ---- m entries are in use
module _ (used rest table : List ℕ) (m : ℕ) (l : length used ≡ m) (e : table ≡ used ++ rest) where
  pub column_within : m ≤ length table
  column_within = rw e (omega (arith, length-append used rest))

  pub column_front : take m table ≡ used
  column_front = rw e (take_at used rest m l)

  pub column_is : table ≡ used ++ drop m table
  column_is = rw (e, drop_at used rest m l)

  -- where they are within the first k, they stand in front of these
  pub column_lent : (k : ℕ) → m ≤ k → take m (take k table) ≡ used
  column_lent k h = take-take m k table h ∙ column_front

  -- others are put in their place
  pub column_put : (k : ℕ) → k ≤ length table → m ≤ k → (new : List ℕ) → (new ++ drop m (take k table)) ++ drop k table ≡ new ++ rest
  column_put k hk h new =
      let room : m ≤ length (take k table) = rw (length-take-le k table hk) h in
      append_assoc new (drop m (take k table)) (drop k table)
      ∙ ap (λ (x : List ℕ). new ++ x) (sym (drop-append-le m (take k table) (drop k table) room) ∙ ap (drop m) (take-append-drop k table ∙ e) ∙ drop_at used rest m l)

  -- or they are put back
  pub column_back : (k : ℕ) → take k table ++ drop k table ≡ used ++ rest
  column_back k = take-append-drop k table ∙ e

-- two tables of as many entries in use, and the same behind them
pub columns_long : (a b rest table other : List ℕ) → length a ≡ length b → table ≡ a ++ rest → other ≡ b ++ rest → length table ≡ length other
columns_long a b rest table other l e k = rw (e, k) (omega (arith, length-append a rest, length-append b rest))

-- ---- a front that is alike at j, before the same rest
alike_front : (front old rest : List ℕ) (j : ℕ) → length front ≡ length old → get_or front j 0 ≡ get_or old j 0 → get_or (front ++ rest) j 0 ≡ get_or (old ++ rest) j 0
alike_front [] [] rest j l e = refl
alike_front [] (y ∷ old) rest j l e = let z : ⊥ = omega arith in absurd z
alike_front (x ∷ front) [] rest j l e = let z : ⊥ = omega arith in absurd z
alike_front (x ∷ front) (y ∷ old) rest zero l e = e
alike_front (x ∷ front) (y ∷ old) rest (suc j) l e = alike_front front old rest j (omega arith) e

pub place_kept : (new table : List ℕ) (m j : ℕ) → length new ≡ length (take m table) → get_or new j 0 ≡ get_or (take m table) j 0 → get_or (new ++ drop m table) j 0 ≡ get_or table j 0
place_kept new table m j l e = alike_front new (take m table) (drop m table) j l e ∙ ap (λ (z : List ℕ). get_or z j 0) (take-append-drop m table)

-- ---- no more entries are lent than there are
pub take_least : (n : ℕ) (l : List ℕ) → take (min n (length l)) l ≡ take n l
take_least n l = elim (dec_lt n (length l)) [
  | yes h ↦ let e : min n (length l) ≡ n = omega arith in rw e
  | no h ↦ let e : min n (length l) ≡ length l = omega arith in rw e (take-length l ∙ sym (take_all n l (omega arith)))
]

pub drop_least : (n : ℕ) (l : List ℕ) → drop (min n (length l)) l ≡ drop n l
drop_least n l = elim (dec_lt n (length l)) [
  | yes h ↦ let e : min n (length l) ≡ n = omega arith in rw e
  | no h ↦
      let e : min n (length l) ≡ length l = omega arith in
      let k : length l ≤ n = omega arith in
      rw e (drop-length l ∙ sym (drop_of_length-le l k))
]
