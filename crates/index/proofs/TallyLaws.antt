-- Counts, one more at a time, and what they sum to. Assumes nothing.
use Prim.Native.Nat.{ℕ, zero, suc, ◌+◌, ◌≤◌, ◌<◌}
use mathlib.Core.Path.{◌≡◌, refl, sym, ◌∙◌}
use mathlib.Core.List.{List, [], ◌∷◌, ◌++◌}
use native.Mathlib.Decide.{ℕ_discrete}
use native.Mathlib.Numerals.{add-one}
use native.Mathlib.Omega.{arith}
use lib.Dec.{eqb}
use lib.ListN.{length, get_or, take, drop, set, length-set}
use lib.Seq.{append_snoc, drop-cons, get_or-set_same, get_or-set_other, length-take-le, set_at}
use borrow.Author.Tests.{eq-eqb, ne_eqb}
use Rattle.edition.specs.Edition.{max_variables}
use Rattle.refusal.proofs.ManyLaws.{one_most}
use Rattle.index.specs.Internal.{one, entry_of, sum_to, CountsAtMost, CountsGrown}

-- ---- one count
module _ (counts : List ℕ) (i : ℕ) where
  pub one_more : i < length counts → (q : ℕ) → get_or (set counts i (get_or counts i 0 + 1)) q 0 ≡ get_or counts q 0 + one (eqb q i)
  one_more h q = elim (ℕ_discrete q i) [
    | yes e ↦ rw (e, get_or-set_same counts i (get_or counts i 0 + 1) 0 h, eq-eqb i i refl)
    | no d ↦ rw (get_or-set_other counts i q (get_or counts i 0 + 1) 0 d, ne_eqb q i d) (omega arith)
  ]

  pub added_none : max_variables ≤ i → CountsGrown counts (λ q. one (eqb q i)) counts
  added_none h q l = rw (ne_eqb q i (omega arith)) (omega arith)

-- it stays small
pub added_most : (before after : List ℕ) (i k : ℕ) → CountsAtMost k before → CountsGrown before (λ q. one (eqb q i)) after → CountsAtMost (k + 1) after
added_most before after i k h a q l = omega (arith, h q l, a q l, one_most (eqb q i))

-- ---- the sums
pub sum_below : (g : ℕ → ℕ) (i n : ℕ) → i ≤ n → sum_to g i ≤ sum_to g n
unfolding sum_to
sum_below g i zero h = let e : i ≡ 0 = omega arith in rw e (omega arith)
sum_below g i (suc n) h = elim (ℕ_discrete i (suc n)) [
  | yes e ↦ rw e (omega arith)
  | no d ↦ omega (arith, sum_below g i n (omega arith))
]

pub sum_next : (g : ℕ → ℕ) (i : ℕ) → sum_to g (i + 1) ≡ sum_to g i + g i
unfolding sum_to
sum_next g i = rw (add-one i)

-- the first i counts are turned into sums
pub record Summed (before : List ℕ) (i : ℕ) (counts : List ℕ) (end : ℕ) : Type 0 where
  pub long : length counts ≡ length before
  pub sum : end ≡ sum_to (entry_of before) i
  pub done : (q : ℕ) → q < i → get_or counts q 0 ≡ sum_to (entry_of before) q
  pub left : (q : ℕ) → i ≤ q → get_or counts q 0 ≡ get_or before q 0

module _ (before : List ℕ) where
  pub summed_start : Summed before 0 before 0
  unfolding sum_to
  summed_start = record { long = refl; sum = refl; done = λ q h. let z : ⊥ = omega arith in absurd z; left = λ q h. refl }

  module _ (i : ℕ) (counts : List ℕ) (end : ℕ) (s : Summed before i counts end) (h : i < length before) where
    pub summed_next : Summed before (i + 1) (set counts i end) (end + get_or counts i 0)
    summed_next = record {
      long = length-set counts i end ∙ s.long;
      sum = omega (arith, s.sum, s.left i (omega arith), sum_next (entry_of before) i);
      done = λ q l. elim (ℕ_discrete q i) [
        | yes e ↦ rw e (get_or-set_same counts i end 0 (omega (arith, s.long)) ∙ s.sum)
        | no d ↦ get_or-set_other counts i q end 0 d ∙ s.done q (omega arith)
      ];
      left = λ q l. get_or-set_other counts i q end 0 (omega arith) ∙ s.left q (omega arith);
    }

-- ---- the first numbers put in front of a table, and one behind them
pub front_last : (firsts table : List ℕ) (n x : ℕ) → n ≤ length firsts → n < length table → set (take n firsts ++ drop n table) n x ≡ (take n firsts ++ (x ∷ [])) ++ drop (suc n) table
front_last firsts table n x h k = rw (drop-cons table n 0 k) (set_at (take n firsts) (get_or table n 0) (drop (suc n) table) x n (length-take-le n firsts h) ∙ sym (append_snoc (take n firsts) x (drop (suc n) table)))
