-- An index that fits: its starts are there, rise and stay within the lists, and each list rises and selects as many lines as it has numbers. Assumes nothing.
use Prim.Native.Nat.{ℕ, zero, suc, ◌+◌, ◌≤◌, ◌<◌}
use mathlib.Core.Path.{◌≡◌, refl, ap}
use mathlib.Core.Bool.{Bool, true, false, ◌&&◌}
use mathlib.Core.List.{List, [], ◌∷◌}
use Rattle.std.specs.Prelude.{Some}
use native.Mathlib.Decide.{ℕ_discrete}
use native.Mathlib.Omega.{arith}
use lib.Dec.{ltb, leb}
use lib.ListN.{length, get_or, take}
use lib.Seq.{length-take-le, get_or-take}
use borrow.Author.Tests.{ltb-true, leb-true, eq-eqb, ne_eqb}
use Rattle.refusal.specs.Lists.{every, how_many, is_one_of}
use Rattle.refusal.specs.Result.{Ok}
use Rattle.refusal.proofs.ResultLaws.{ensure_accepted, test_accepted}
use Rattle.refusal.proofs.BoolLaws.{and_true}
use Rattle.refusal.proofs.ListLaws.{every_get}
use Rattle.refusal.proofs.OneOfLaws.{one_of_none, one_of_cons}
use Rattle.constraint.specs.declared.Line.{Line}
use Rattle.constraint.specs.File.{File}
use Rattle.store.specs.Tables.{tabulate}
use Rattle.store.proofs.TableLaws.{length-tabulate, get_d_tabulate}
use Rattle.index.specs.Select.{selected}
use Rattle.index.specs.Index.{Index}
use Rattle.index.specs.AnyIndex.{list_in, numbered, concerned, neighbours, starts_in_use, starts_fit, list_fits, lists_fit, index_fits}
use Rattle.index.proofs.NeighbourLaws.{neighbours_get}
use Rattle.index.proofs.SelectLaws.{numbered_below}

-- ---- numbers that rise, from lo on and below hi
abbrev pub Rising : ℕ → ℕ → List ℕ → Type 0
Rising lo hi [] = Unit {0}
Rising lo hi (n ∷ ns) = (lo ≤ n) × (n < hi) × Rising (suc n) hi ns

rising_behind : (a m : ℕ) (ns : List ℕ) → every (λ n. ltb 0 n && leb n m) ns ≡ true → neighbours ltb (a ∷ ns) ≡ true → Rising (suc a) (suc m) ns
unfolding every neighbours
rising_behind a m [] e h = tt
rising_behind a m (b ∷ ns) e h =
    let p = and_true (ltb 0 b && leb b m) (every (λ n. ltb 0 n && leb n m) ns) e in
    let q = and_true (ltb a b) (neighbours ltb (b ∷ ns)) h in
    (ltb-true a b q.0, omega (arith, leb-true b m (and_true (ltb 0 b) (leb b m) p.0).1), rising_behind b m ns p.1 q.1)

pub list_rises : (m : ℕ) (ns : List ℕ) → list_fits m ns ≡ true → Rising 1 (suc m) ns
unfolding list_fits every
list_rises m [] e = tt
list_rises m (a ∷ ns) e =
    let p = and_true (every (λ n. ltb 0 n && leb n m) (a ∷ ns)) (neighbours ltb (a ∷ ns)) e in
    let q = and_true (ltb 0 a && leb a m) (every (λ n. ltb 0 n && leb n m) ns) p.0 in
    let r = and_true (ltb 0 a) (leb a m) q.0 in
    (ltb-true 0 a r.0, omega (arith, leb-true a m r.1), rising_behind a m ns q.1 p.1)

-- a number below them is none of them
pub below_rising : (n lo hi : ℕ) (ns : List ℕ) → n < lo → Rising lo hi ns → is_one_of n ns ≡ false
below_rising n lo hi [] h r = one_of_none n
below_rising n lo hi (m ∷ ns) h r = let k : n < m = omega (arith, r.0) in rw (one_of_cons n m ns, ne_eqb n m (omega arith)) (below_rising n (suc m) hi ns (omega arith) r.2)

-- each is in their range, and none of those before it
pub rising_at : (lo hi : ℕ) (ns : List ℕ) (j : ℕ) → Rising lo hi ns → j < length ns → (lo ≤ get_or ns j 0) × (get_or ns j 0 < hi)
rising_at lo hi [] j r h = let z : ⊥ = omega arith in absurd z
rising_at lo hi (n ∷ ns) zero r h = (r.0, r.1)
rising_at lo hi (n ∷ ns) (suc j) r h = let p = rising_at (suc n) hi ns j r.2 (omega arith) in (omega (arith, r.0, p.0), p.1)

pub rising_new : (lo hi : ℕ) (ns : List ℕ) (j : ℕ) → Rising lo hi ns → j < length ns → is_one_of (get_or ns j 0) (take j ns) ≡ false
rising_new lo hi [] j r h = let z : ⊥ = omega arith in absurd z
rising_new lo hi (n ∷ ns) zero r h = one_of_none n
rising_new lo hi (n ∷ ns) (suc j) r h =
    let p = rising_at (suc n) hi ns j r.2 (omega arith) in
    rw (one_of_cons (get_or ns j 0) n (take j ns), ne_eqb (get_or ns j 0) n (omega (arith, p.0))) (rising_new (suc n) hi ns j r.2 (omega arith))

-- ---- they select as many lines as there are numbers
pub count_numbered : (n hi : ℕ) (ls : List Line) (ns : List ℕ) → hi ≡ n + length ls → Rising n hi ns → how_many (λ b. b) (numbered ns n ls) ≡ length ns
unfolding numbered how_many
count_numbered n hi [] [] e r = refl
count_numbered n hi [] (m ∷ ns) e r = let z : ⊥ = omega (arith, r.0, r.1) in absurd z
count_numbered n hi (l ∷ ls) [] e r = rw (one_of_none n) (count_numbered (suc n) hi ls [] (omega arith) tt)
count_numbered n hi (l ∷ ls) (m ∷ ns) e r = elim (ℕ_discrete n m) [
  | yes k ↦
      let rest : Rising (suc n) hi ns = rw k r.2 in
      rw (one_of_cons n m ns, eq-eqb n m k, numbered_below m (suc n) ns ls (omega arith)) (ap suc (count_numbered (suc n) hi ls ns (omega arith) rest))
  | no k ↦
      let h : n < m = omega (arith, r.0) in
      rw (one_of_cons n m ns, ne_eqb n m k, below_rising n (suc m) hi ns (omega arith) r.2) (count_numbered (suc n) hi ls (m ∷ ns) (omega arith) (h, r.1, r.2))
]

-- ---- starts of n variables that fit
module _ (n : ℕ) (x : Index) (e : starts_fit n x ≡ true) where
  abbrev used : List ℕ
  used = starts_in_use n x

  abbrev within : ℕ → Bool
  within s = leb s (length x.lists)

  tests : (ltb n (length x.starts) ≡ true) × (neighbours leb used ≡ true) × (every within used ≡ true)
  unfolding starts_fit
  tests =
      let p = and_true (ltb n (length x.starts) && neighbours leb used) (every within used) e in
      let q = and_true (ltb n (length x.starts)) (neighbours leb used) p.0 in
      (q.0, q.1, p.1)

  pub starts_long : n < length x.starts
  starts_long = ltb-true n (length x.starts) tests.0

  many : length used ≡ suc n
  many = length-take-le (suc n) x.starts starts_long

  here : (i : ℕ) → i ≤ n → get_or used i 0 ≡ get_or x.starts i 0
  here i h = get_or-take (suc n) x.starts i 0 (omega arith)

  rise : (i : ℕ) → i < n → get_or x.starts i 0 ≤ get_or x.starts (suc i) 0
  rise i h =
      let z = neighbours_get leb used i tests.1 (omega (arith, many)) in
      leb-true (get_or x.starts i 0) (get_or x.starts (suc i) 0) (rw (here i (omega arith), here (suc i) h) at z)

  room : (i : ℕ) → i ≤ n → get_or x.starts i 0 ≤ length x.lists
  room i h = let z = every_get within 0 used i tests.2 (omega (arith, many)) in leb-true (get_or x.starts i 0) (length x.lists) (rw (here i h) at z)

-- ---- an index that fits a file
module _ (f : File) (x : Index) (i : ℕ) (e : index_fits f (Some x) ≡ Ok tt) where
  abbrev n : ℕ
  n = length f.variables

  abbrev m : ℕ
  m = length f.lines

  both : (starts_fit n x ≡ true) × (lists_fit n m x ≡ true)
  both =
      let a = ensure_accepted (starts_fit n x) _ _ tt e in
      (a.0, test_accepted (lists_fit n m x) _ a.1)

  module _ (h : i < length f.variables) where
    -- the start of a list and that of the next, or the end
    pub starts_there : suc i < length x.starts
    starts_there = omega (arith, starts_long n x both.0)

    pub starts_rise : get_or x.starts i 0 ≤ get_or x.starts (suc i) 0
    starts_rise = rise n x both.0 i h

    pub starts_within : get_or x.starts (suc i) 0 ≤ length x.lists
    starts_within = room n x both.0 (suc i) h

    -- the list
    pub listed_fits : list_fits (length f.lines) (list_in x i) ≡ true
    unfolding lists_fit
    listed_fits =
        let g : ℕ → ℕ = λ k. k in
        let r = every_get (λ k. list_fits m (list_in x k)) 0 (tabulate g n) i both.1 (omega (arith, length-tabulate g n)) in
        rw (get_d_tabulate g n i 0 h) at r

    pub named_listed : selected (concerned f (Some x) i) ≡ length (list_in x i)
    named_listed = count_numbered 1 (suc m) f.lines (list_in x i) (omega arith) (list_rises m (list_in x i) listed_fits)
