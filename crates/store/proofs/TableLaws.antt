-- Tabulated lists, and a row stored at the front of a table. Assumes nothing.
use mathlib.Core.Path.{◌≡◌, refl, sym, ap, ap₂, ◌∙◌}
use mathlib.Core.List.{List, [], ◌∷◌, ◌++◌}
use Prim.Native.Nat.{ℕ, zero, suc, ◌+◌, ◌≤◌, ◌<◌}
use native.Mathlib.Nat.{zero-add}
use native.Mathlib.Numerals.{add-one}
use native.Mathlib.Decide.{ℕ_discrete, dec_lt}
use native.Mathlib.Omega.{arith}
use lib.ListN.{length, get_or, take, drop, set, length-append, get_or-append}
use lib.Seq.{get_or-append_seam, paste-suc, take_all, take-append-le}
use Rattle.store.specs.Tables.{tabulate}

module _ {A : Type 0} (f : ℕ → A) where
  pub length-tabulate : (n : ℕ) → length (tabulate f n) ≡ n
  unfolding tabulate
  length-tabulate zero = refl
  length-tabulate (suc n) = length-append (tabulate f n) (f n ∷ []) ∙ omega (arith, length-tabulate n)

  pub get_d_tabulate : (n i : ℕ) (d : A) → i < n → get_or (tabulate f n) i d ≡ f i
  unfolding tabulate
  get_d_tabulate zero i d h = let z : ⊥ = omega arith in absurd z
  get_d_tabulate (suc n) i d h = elim (dec_lt i n) [
    | yes p ↦ get_or-append (tabulate f n) (f n ∷ []) d i (omega (arith, length-tabulate n)) ∙ get_d_tabulate n i d p
    | no p ↦
        let e : i ≡ n = omega arith in
        let l : n ≡ length (tabulate f n) = sym (length-tabulate n) in
        rw e (ap (λ (j : ℕ). get_or (tabulate f n ++ (f n ∷ [])) j d) l ∙ get_or-append_seam (tabulate f n) (f n) [] d)
  ]

  pub take-tabulate : (k n : ℕ) → k ≤ n → take k (tabulate f n) ≡ tabulate f k
  unfolding tabulate
  take-tabulate k zero h = let e : k ≡ 0 = omega arith in rw e
  take-tabulate k (suc n) h = elim (ℕ_discrete k (suc n)) [
    | yes e ↦ rw e (take_all (suc n) (tabulate f (suc n)) (omega (arith, length-tabulate (suc n))))
    | no d ↦ take-append-le k (tabulate f n) (f n ∷ []) (omega (arith, length-tabulate n)) ∙ take-tabulate k n (omega arith)
  ]

pub tabulate_cong : {A : Type 0} (f g : ℕ → A) (n : ℕ) → ((i : ℕ) → i < n → f i ≡ g i) → tabulate f n ≡ tabulate g n
unfolding tabulate
tabulate_cong f g zero h = refl
tabulate_cong f g (suc n) h = ap₂ (λ l x. l ++ (x ∷ [])) (tabulate_cong f g n (λ i p. h i (omega arith))) (h n (omega arith))

pub tabulate_suc : {A : Type 0} (f : ℕ → A) (n : ℕ) → tabulate f (n + 1) ≡ tabulate f n ++ (f n ∷ [])
unfolding tabulate
tabulate_suc f n = rw (add-one n)

-- one value more of a row
pub row_more : (row table : List ℕ) (i : ℕ) → i < length row → i < length table → set (take i row ++ drop i table) i (get_or row i 0) ≡ take (i + 1) row ++ drop (i + 1) table
row_more row table i h k = rw add-one (simp zero-add at (paste-suc table 0 row i 0 (rw zero-add k) h))
