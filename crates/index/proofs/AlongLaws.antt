-- The starts and the lists of an index, tested from one place to the next. Assumes nothing.
use Prim.Native.Nat.{ℕ, suc, ◌+◌, ◌≤◌, ◌<◌, min}
use mathlib.Core.Path.{◌≡◌, refl, sym, ◌∙◌}
use mathlib.Core.Bool.{Bool, true, false, ◌&&◌}
use mathlib.Core.List.{List, [], ◌∷◌}
use native.Mathlib.Nat.{min-le_left}
use native.Mathlib.Numerals.{add-one}
use native.Mathlib.Omega.{arith}
use lib.Dec.{ltb, leb}
use lib.ListN.{length, get_or, take, drop, length-take, drop_of_length-le}
use lib.Seq.{drop-cons, get_or-take, length-take-le}
use borrow.Author.Tests.{lt-ltb, le-ltb, le-leb, lt-leb, ltb-true, leb-true}
use Rattle.refusal.specs.Lists.{every}
use Rattle.refusal.proofs.BoolLaws.{and_false, and_one}
use Rattle.refusal.proofs.ListLaws.{every_stops, every_next}
use Rattle.text.proofs.RunLaws.{every_end}
use Rattle.store.specs.Tables.{tabulate}
use Rattle.store.proofs.TableLaws.{length-tabulate, get_d_tabulate}
use Rattle.index.specs.Index.{index_of}
use Rattle.index.specs.AnyIndex.{list_in, neighbours, starts_fit, list_fits, lists_fit}

-- each number passes `beside` after the one before it, the first after `last`, and passes `alone`
unfoldable pub along : (ℕ → ℕ → Bool) → (ℕ → Bool) → ℕ → List ℕ → Bool
along beside alone last [] = true
along beside alone last (a ∷ l) = beside last a && (alone a && along beside alone a l)

-- ---- from one place to the next
module _ (beside : ℕ → ℕ → Bool) (alone : ℕ → Bool) (last : ℕ) (l : List ℕ) (i : ℕ) where
  module _ (h : i < length l) where
    pub along_falls : beside last (get_or l i 0) ≡ false → along beside alone last (drop i l) ≡ false
    unfolding along
    along_falls k = rw (drop-cons l i 0 h, k)

    pub along_fails : alone (get_or l i 0) ≡ false → along beside alone last (drop i l) ≡ false
    unfolding along
    along_fails k = rw (drop-cons l i 0 h, k, and_false (beside last (get_or l i 0)))

    pub along_next : beside last (get_or l i 0) ≡ true → alone (get_or l i 0) ≡ true → along beside alone last (drop i l) ≡ along beside alone (get_or l i 0) (drop (i + 1) l)
    unfolding along
    along_next k q = rw (drop-cons l i 0 h, k, q, add-one i)

  pub along_end : length l ≤ i → along beside alone last (drop i l) ≡ true
  unfolding along
  along_end h = rw (drop_of_length-le l h)

-- ---- the starts
apart : (x y n e a : Bool) → (n && e) ≡ a → (x && n && (y && e)) ≡ (x && (y && a))
apart true true n e a h = h
apart true false n e a h = and_false n
apart false y n e a h = refl

along_apart : (beside : ℕ → ℕ → Bool) (alone : ℕ → Bool) (last : ℕ) (l : List ℕ) → (neighbours beside (last ∷ l) && every alone l) ≡ along beside alone last l
unfolding along neighbours every
along_apart beside alone last [] = refl
along_apart beside alone last (a ∷ l) = apart (beside last a) (alone a) (neighbours beside (a ∷ l)) (every alone l) (along beside alone a l) (along_apart beside alone a l)

from_zero : (l : List ℕ) → neighbours leb (0 ∷ l) ≡ neighbours leb l
unfolding neighbours
from_zero [] = refl
from_zero (a ∷ l) = rw (le-leb 0 a (omega arith))

-- of the starts from i on, behind `last`
unfoldable pub starts_from : List ℕ → List ℕ → ℕ → ℕ → ℕ → Bool
starts_from starts lists n last i = along leb (λ s. leb s (length lists)) last (drop i (take (suc n) starts))

module _ (starts lists : List ℕ) (n : ℕ) where
  abbrev within : ℕ → Bool
  within s = leb s (length lists)

  pub starts_missing : length starts ≤ n → starts_fit n (index_of starts lists) ≡ false
  unfolding starts_fit
  starts_missing h = rw (le-ltb n (length starts) h)

  module _ (long : n < length starts) where
    pub starts_first : starts_from starts lists n 0 0 ≡ starts_fit n (index_of starts lists)
    unfolding starts_fit starts_from
    starts_first =
        sym (along_apart leb within 0 (take (suc n) starts)) ∙ rw (lt-ltb n (length starts) long, from_zero (take (suc n) starts)) refl

    many : length (take (suc n) starts) ≡ suc n
    many = length-take-le (suc n) starts (omega arith)

    module _ (last i : ℕ) where
      pub starts_end : n < i → starts_from starts lists n last i ≡ true
      unfolding starts_from
      starts_end h = along_end leb within last (take (suc n) starts) i (omega (arith, many))

      module _ (h : i ≤ n) where
        here : get_or (take (suc n) starts) i 0 ≡ get_or starts i 0
        here = get_or-take (suc n) starts i 0 (omega arith)

        pub starts_fall : get_or starts i 0 < last → starts_from starts lists n last i ≡ false
        unfolding starts_from
        starts_fall k = along_falls leb within last (take (suc n) starts) i (omega (arith, many)) (rw here (lt-leb last (get_or starts i 0) k))

        pub starts_pass : length lists < get_or starts i 0 → starts_from starts lists n last i ≡ false
        unfolding starts_from
        starts_pass k = along_fails leb within last (take (suc n) starts) i (omega (arith, many)) (rw here (lt-leb (get_or starts i 0) (length lists) k))

        pub starts_next : last ≤ get_or starts i 0 → get_or starts i 0 ≤ length lists → starts_from starts lists n last i ≡ starts_from starts lists n (get_or starts i 0) (i + 1)
        unfolding starts_from
        starts_next k q =
            rw here at (along_next leb within last (take (suc n) starts) i (omega (arith, many)) (rw here (le-leb last (get_or starts i 0) k)) (rw here (le-leb (get_or starts i 0) (length lists) q)))

-- ---- a list
-- each number is above the one before it, the first above `last`, and the last is at most m
unfoldable pub rises_to : ℕ → ℕ → List ℕ → Bool
rises_to m last [] = leb last m
rises_to m last (a ∷ l) = ltb last a && rises_to m a l

module _ (m : ℕ) where
  abbrev numbers : ℕ → Bool
  numbers n = ltb 0 n && leb n m

  -- a number above another is above 0, and at least as large
  mixed : (p y e x n w r : Bool) → (x ≡ true → p ≡ true) → (x ≡ true → y ≡ true → w ≡ true) → (e && n && y) ≡ r → (p && y && e && (x && n) && w) ≡ (x && r)
  mixed p true e true n w r f g k = rw (f refl, g refl refl) k
  mixed p false e true n w r f g k = rw (f refl) (sym (and_false (e && n)) ∙ k)
  mixed p y e false n w r f g k = rw (and_false (p && y && e)) refl

  rises_behind : (last : ℕ) (l : List ℕ) → (every numbers l && neighbours ltb (last ∷ l) && leb last m) ≡ rises_to m last l
  unfolding rises_to neighbours every
  rises_behind last [] = refl
  rises_behind last (a ∷ l) =
      mixed (ltb 0 a) (leb a m) (every numbers l) (ltb last a) (neighbours ltb (a ∷ l)) (leb last m) (rises_to m a l)
      (λ e. let z = ltb-true last a e in lt-ltb 0 a (omega arith))
      (λ e h. let z = ltb-true last a e in let y = leb-true a m h in le-leb last m (omega arith))
      (rises_behind a l)

  first : (p y e n r : Bool) → (e && n && y) ≡ r → (p && y && e && n) ≡ (p && r)
  first true true e n r k = sym (and_one (e && n)) ∙ k
  first true false e n r k = sym (and_false (e && n)) ∙ k
  first false y e n r k = refl

  list_rises_to : (l : List ℕ) → list_fits m l ≡ rises_to m 0 l
  unfolding list_fits rises_to neighbours every
  list_rises_to [] = sym (le-leb 0 m (omega arith))
  list_rises_to (a ∷ l) = first (ltb 0 a) (leb a m) (every numbers l) (neighbours ltb (a ∷ l)) (rises_to m a l) (rises_behind a l)

-- of the numbers from place k up to `to`, behind `last`
unfoldable pub list_from : ℕ → List ℕ → ℕ → ℕ → ℕ → Bool
list_from m lists to last k = rises_to m last (drop k (take to lists))

module _ (m : ℕ) (lists : List ℕ) (to : ℕ) where
  pub list_first : (from : ℕ) → list_from m lists to 0 from ≡ list_fits m (drop from (take to lists))
  unfolding list_from
  list_first from = sym (list_rises_to m (drop from (take to lists)))

  module _ (last k : ℕ) where
    pub list_end : min to (length lists) ≤ k → list_from m lists to last k ≡ leb last m
    unfolding list_from rises_to
    list_end h = let z : length (take to lists) ≤ k = rw (length-take to lists) h in rw (drop_of_length-le (take to lists) z)

    module _ (h : k < min to (length lists)) where
      behind : drop k (take to lists) ≡ get_or lists k 0 ∷ drop (k + 1) (take to lists)
      behind = rw (add-one k, ← get_or-take to lists k 0 (omega (arith, min-le_left to (length lists)))) (drop-cons (take to lists) k 0 (rw (length-take to lists) h))

      pub list_low : get_or lists k 0 ≤ last → list_from m lists to last k ≡ false
      unfolding list_from rises_to
      list_low q = rw (behind, le-ltb last (get_or lists k 0) q)

      pub list_next : last < get_or lists k 0 → list_from m lists to last k ≡ list_from m lists to (get_or lists k 0) (k + 1)
      unfolding list_from rises_to
      list_next q = rw (behind, lt-ltb last (get_or lists k 0) q)

-- ---- each variable's list
abbrev fits_at : List ℕ → List ℕ → ℕ → ℕ → Bool
fits_at starts lists m i = list_fits m (list_in (index_of starts lists) i)

-- of the variables from i on
unfoldable pub lists_from : List ℕ → List ℕ → ℕ → ℕ → ℕ → Bool
lists_from starts lists n m i = every (fits_at starts lists m) (drop i (tabulate (λ i. i) n))

module _ (starts lists : List ℕ) (n m : ℕ) where
  pub lists_first : lists_from starts lists n m 0 ≡ lists_fit n m (index_of starts lists)
  unfolding lists_from lists_fit
  lists_first = refl

  module _ (i : ℕ) where
    pub lists_end : n ≤ i → lists_from starts lists n m i ≡ true
    unfolding lists_from
    lists_end h = every_end (fits_at starts lists m) (tabulate (λ i. i) n) i (omega (arith, length-tabulate (λ i. i) n))

    module _ (h : i < n) (b : Bool) (e : list_fits m (drop (get_or starts i 0) (take (get_or starts (i + 1) 0) lists)) ≡ b) where
      one : i < length (tabulate (λ i. i) n)
      one = omega (arith, length-tabulate (λ i. i) n)

      list_here : fits_at starts lists m (get_or (tabulate (λ i. i) n) i 0) ≡ b
      unfolding list_in
      list_here = rw (get_d_tabulate (λ i. i) n i 0 h) (rw (add-one i) at e)

      pub lists_broken : b ≡ false → lists_from starts lists n m i ≡ false
      unfolding lists_from
      lists_broken q = every_stops (fits_at starts lists m) 0 (tabulate (λ i. i) n) i one (list_here ∙ q)

      pub lists_next : b ≡ true → lists_from starts lists n m i ≡ lists_from starts lists n m (i + 1)
      unfolding lists_from
      lists_next q = every_next (fits_at starts lists m) 0 (tabulate (λ i. i) n) i one (list_here ∙ q)
