-- The file's own index: what it lists for a variable is the variable's own list, and it passes the tests of an index. Assumes nothing.
use Prim.Native.Nat.{ℕ, zero, suc, ◌+◌, ◌≤◌, ◌<◌}
use mathlib.Core.Path.{◌≡◌, refl, sym, ap, ◌∙◌}
use mathlib.Core.Bool.{Bool, true, false, ◌&&◌}
use mathlib.Core.List.{List, [], ◌∷◌, ◌++◌, append_assoc, append-nil}
use Rattle.std.specs.Prelude.{Option, None, Some}
use native.Mathlib.Omega.{arith}
use native.Mathlib.Decide.{dec_lt}
use lib.Dec.{ltb, leb}
use lib.ListN.{length, get_or, take, length-append, length-take, length-map}
use lib.Seq.{get_or-take, take-take, take-append_seam, drop-append_seam}
use borrow.Author.Tests.{lt-ltb, le-leb}
use Rattle.refusal.specs.Lists.{every}
use Rattle.refusal.specs.Result.{Ok}
use Rattle.refusal.proofs.ListLaws.{every_at}
use Rattle.constraint.specs.File.{File}
use Rattle.store.specs.Tables.{tabulate}
use Rattle.store.proofs.TableLaws.{length-tabulate, get_d_tabulate}
use Rattle.index.specs.Select.{names, naming}
use Rattle.index.specs.Index.{Index, numbers_from, own_list, own_lists, own_start, own_index}
use Rattle.index.specs.AnyIndex.{list_in, concerned, neighbours, starts_in_use, starts_fit, list_fits, lists_fit, index_fits}
use Rattle.index.specs.Claims.{StandsInFront, IsOwn, OwnOrNone}
use Rattle.index.proofs.NeighbourLaws.{neighbours_at}
use Rattle.index.proofs.IndexLaws.{own_list_selects}

-- ---- what is lent is no longer than its table
front_within : (table lent : List ℕ) → StandsInFront table lent → length lent ≤ length table
front_within table lent e = omega (arith, ap length e ∙ length-take (length lent) table)

-- ---- the lists of the first variables stand in front of all
module _ (f : File) where
  lists_front : (n i : ℕ) → i ≤ n → (rest : List ℕ) × (own_lists f n ≡ own_lists f i ++ rest)
  unfolding own_lists
  lists_front zero i h = let e : i ≡ 0 = omega arith in ([], rw e refl)
  lists_front (suc n) i h = elim (dec_lt n i) [
    | yes p ↦ let e : i ≡ suc n = omega arith in ([], rw e (sym (append-nil (own_lists f n ++ own_list f n))))
    | no p ↦ let r = lists_front n i (omega arith) in (r.0 ++ own_list f n, ap (λ (l : List ℕ). l ++ own_list f n) r.1 ∙ append_assoc (own_lists f i) r.0 (own_list f n))
  ]

  lists_within : (n i : ℕ) → i ≤ n → length (own_lists f i) ≤ length (own_lists f n)
  lists_within n i h = let r = lists_front n i h in omega (arith, ap length r.1 ∙ length-append (own_lists f i) r.0)

  lists_taken : (n i : ℕ) → i ≤ n → take (length (own_lists f i)) (own_lists f n) ≡ own_lists f i
  lists_taken n i h = let r = lists_front n i h in rw r.1 (take-append_seam (own_lists f i) r.0)

-- ---- the numbers of selected lines are within the lines, and rise
both_true : (x y : Bool) → x ≡ true → y ≡ true → (x && y) ≡ true
both_true x y a b = rw (a, b)

numbers_within : (m n : ℕ) (bs : List Bool) → 0 < n → n + length bs ≤ suc m → every (λ k. ltb 0 k && leb k m) (numbers_from n bs) ≡ true
unfolding every numbers_from
numbers_within m n [] h k = refl
numbers_within m n (true ∷ bs) h k = rw (lt-ltb 0 n h, le-leb n m (omega arith)) (numbers_within m (suc n) bs (omega arith) (omega arith))
numbers_within m n (false ∷ bs) h k = numbers_within m (suc n) bs (omega arith) (omega arith)

numbers_above : (k n : ℕ) (bs : List Bool) → k < n → neighbours ltb (k ∷ numbers_from n bs) ≡ true
unfolding neighbours numbers_from
numbers_above k n [] h = refl
numbers_above k n (true ∷ bs) h = rw (lt-ltb k n h) (numbers_above n (suc n) bs (omega arith))
numbers_above k n (false ∷ bs) h = numbers_above k (suc n) bs (omega arith)

numbers_rise : (n : ℕ) (bs : List Bool) → neighbours ltb (numbers_from n bs) ≡ true
unfolding neighbours numbers_from
numbers_rise n [] = refl
numbers_rise n (true ∷ bs) = numbers_above n (suc n) bs (omega arith)
numbers_rise n (false ∷ bs) = numbers_rise (suc n) bs

own_list_fits : (f : File) (i : ℕ) → list_fits (length f.lines) (own_list f i) ≡ true
unfolding list_fits own_list naming
own_list_fits f i =
    let m = length f.lines in
    let l : 1 + length (naming f i) ≤ suc m = omega (arith, length-map f.lines (names i)) in
    rw (numbers_within m 1 (naming f i) (omega arith) l) (numbers_rise 1 (naming f i))

-- ---- an index that is the file's own
module _ (f : File) (x : Index) (own : IsOwn f x) where
  starts_own : starts_in_use (length f.variables) x ≡ (own_index f).starts
  starts_own = let e = own.starts in rw (length-tabulate (own_start f) (suc (length f.variables))) at (sym e)

  start_own : (i : ℕ) → i ≤ length f.variables → get_or x.starts i 0 ≡ own_start f i
  start_own i h =
      let n = suc (length f.variables) in
      sym (get_or-take n x.starts i 0 (omega arith)) ∙ ap (λ (l : List ℕ). get_or l i 0) starts_own ∙ get_d_tabulate (own_start f) n i 0 (omega arith)

  listed_own : (i : ℕ) → i < length f.variables → list_in x i ≡ own_list f i
  unfolding list_in own_lists own_start
  listed_own i h =
      let n = length f.variables in
      let all = own_lists f n in
      let k = length (own_lists f (suc i)) in
      let front : take k x.lists ≡ own_lists f (suc i) = sym (take-take k (length all) x.lists (lists_within f n (suc i) h)) ∙ ap (take k) (sym own.lists) ∙ lists_taken f n (suc i) h in
      rw (start_own i (omega arith), start_own (suc i) h, front) (drop-append_seam (own_lists f i) (own_list f i))

  pub concerned_own : (i : ℕ) → i < length f.variables → concerned f (Some x) i ≡ naming f i
  concerned_own i h = rw (listed_own i h) (own_list_selects f i)

  starts_fit_lem : starts_fit (length f.variables) x ≡ true
  unfolding starts_fit own_start
  starts_fit_lem =
      let n = length f.variables in
      let g = own_start f in
      let long = length-tabulate g (suc n) in
      let starts_long : n < length x.starts = omega (arith, front_within x.starts (own_index f).starts own.starts, long) in
      let lists_long = front_within x.lists (own_index f).lists own.lists in
      rw (lt-ltb n (length x.starts) starts_long, starts_own)
      (both_true (neighbours leb (tabulate g (suc n))) (every (λ s. leb s (length x.lists)) (tabulate g (suc n)))
      (neighbours_at leb (tabulate g (suc n)) (λ i h. rw (get_d_tabulate g (suc n) i 0 (omega arith), get_d_tabulate g (suc n) (suc i) 0 (omega arith)) (le-leb (g i) (g (suc i)) (lists_within f (suc i) i (omega arith)))))
      (every_at (λ s. leb s (length x.lists)) 0 (tabulate g (suc n)) (λ i h. rw (get_d_tabulate g (suc n) i 0 (omega arith)) (le-leb (g i) (length x.lists) (omega (arith, lists_within f n i (omega arith)))))))

  lists_fit_lem : lists_fit (length f.variables) (length f.lines) x ≡ true
  unfolding lists_fit
  lists_fit_lem =
      let n = length f.variables in
      let g : ℕ → ℕ = λ i. i in
      let long = length-tabulate g n in
      every_at (λ i. list_fits (length f.lines) (list_in x i)) 0 (tabulate g n) (λ i h. rw (get_d_tabulate g n i 0 (omega arith), listed_own i (omega arith)) (own_list_fits f i))

  pub index_fits_own : index_fits f (Some x) ≡ Ok tt
  index_fits_own = rw (starts_fit_lem, lists_fit_lem)

-- ---- no index, or the file's own
pub index_fits_lem : (f : File) (x : Option Index) → OwnOrNone f x → index_fits f x ≡ Ok tt
index_fits_lem f None own = refl
index_fits_lem f (Some x) own = index_fits_own f x own

pub concerned_naming : (f : File) (x : Option Index) → OwnOrNone f x → (i : ℕ) → i < length f.variables → concerned f x i ≡ naming f i
concerned_naming f None own i h = refl
concerned_naming f (Some x) own i h = concerned_own f x own i h
