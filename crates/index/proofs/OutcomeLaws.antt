-- The outcome of building an index: refused for want of room, or the file's own index in front of the tables. Assumes nothing.
use Prim.Native.Nat.{ℕ, zero, suc, ◌≤◌, ◌<◌}
use mathlib.Core.Path.{◌≡◌, refl, sym, ap, ◌∙◌}
use mathlib.Core.List.{List, [], ◌∷◌, ◌++◌}
use native.Mathlib.Omega.{arith}
use lib.ListN.{length, get_or, take, drop}
use lib.Seq.{ext_get_or, get_or-take, length-take-le}
use borrow.Author.Tests.{le-leb, lt-leb}
use Rattle.edition.specs.Edition.{max_variables, max_lines}
use Rattle.refusal.specs.declared.Subject.TheVariants.{Starts, Lists}
use Rattle.refusal.specs.declared.Refusal.{Refusal}
use Rattle.refusal.specs.Lists.{how_many}
use Rattle.refusal.specs.declared.Fault.TheVariants.{TooShort}
use Rattle.refusal.specs.Result.{Reply, Ok, Err, refusal}
use Rattle.constraint.specs.File.{File}
use Rattle.store.specs.Tables.{tabulate, lines_in}
use Rattle.store.proofs.TableLaws.{length-tabulate, get_d_tabulate}
use Rattle.index.specs.Select.{names, naming}
use Rattle.index.specs.Index.{own_list, own_lists, own_start, own_index, IndexOutcome}
use Rattle.index.specs.Claims.{max_listed}
use Rattle.index.specs.Internal.{entry_of, sum_to, held_file, index_for}
use Rattle.index.proofs.CountLaws.{sum_alike}
use Rattle.index.proofs.FillLaws.{start_sum, start_most}

-- ---- the counts of n variables sum up to where their lists start
module _ (heads bodies counts : List ℕ) (m : ℕ) (e : (q : ℕ) → q < max_variables → get_or counts q 0 ≡ how_many (names q) (lines_in heads bodies m)) where
  pub counts_start : (i : ℕ) → i ≤ max_variables → sum_to (entry_of counts) i ≡ own_start (held_file heads bodies m) i
  counts_start i h = sum_alike (entry_of counts) (λ q. how_many (names q) (lines_in heads bodies m)) i (λ q l. e q (omega arith)) ∙ sym (start_sum (held_file heads bodies m) i)

  pub counts_most : (n : ℕ) → n ≤ max_variables → m ≤ max_lines → sum_to (entry_of counts) n ≤ max_listed
  counts_most n h l = omega (arith, counts_start n h, start_most heads bodies n m l)

-- ---- a file of n variables whose lines are in the tables
module _ (f : File) (heads bodies : List ℕ) (n m : ℕ) (v : length f.variables ≡ n) (l : f.lines ≡ lines_in heads bodies m) where
  lists_held : (i : ℕ) → own_lists f i ≡ own_lists (held_file heads bodies m) i
  unfolding own_lists own_list naming
  lists_held zero = refl
  lists_held (suc i) = rw (lists_held i, l)

  start_held : (i : ℕ) → own_start f i ≡ own_start (held_file heads bodies m) i
  unfolding own_start
  start_held i = ap length (lists_held i)

  many_starts : length (own_index f).starts ≡ suc n
  many_starts = length-tabulate (own_start f) (suc (length f.variables)) ∙ ap suc v

  many_lists : length (own_index f).lists ≡ own_start (held_file heads bodies m) n
  unfolding own_start
  many_lists = rw (v, lists_held n)

  module _ (starts lists : List ℕ) where
    pub starts_short : (r : Refusal) → r ≡ refusal Starts TooShort 0 → length starts ≤ n → ◌≡◌ {A = IndexOutcome} (record { reply = Err r; starts = starts; lists = lists }) (index_for f starts lists)
    starts_short r e h = rw (e, lt-leb (length (own_index f).starts) (length starts) (omega (arith, many_starts)))

    module _ (h : n < length starts) where
      pub lists_short : (r : Refusal) → r ≡ refusal Lists TooShort 0 → length lists < own_start (held_file heads bodies m) n → ◌≡◌ {A = IndexOutcome} (record { reply = Err r; starts = starts; lists = lists }) (index_for f starts lists)
      lists_short r e k =
          rw (e, le-leb (length (own_index f).starts) (length starts) (omega (arith, many_starts)), lt-leb (length (own_index f).lists) (length lists) (omega (arith, many_lists)))

      module _ (k : own_start (held_file heads bodies m) n ≤ length lists) (next : List ℕ) (long : length next ≡ max_variables) (few : n ≤ max_variables) (e : (q : ℕ) → q < n → get_or next q 0 ≡ own_start (held_file heads bodies m) q) where
        firsts : take n next ≡ tabulate (own_start f) n
        firsts =
            ext_get_or 0 (take n next) (tabulate (own_start f) n) (length-take-le n next (omega arith) ∙ sym (length-tabulate (own_start f) n)) (λ i p.
            let q : i < n = omega (arith, length-take-le n next (omega arith)) in
            get_or-take n next i 0 q ∙ e i q ∙ sym (start_held i) ∙ sym (get_d_tabulate (own_start f) n i 0 q))

        starts_are : (end : ℕ) → end ≡ own_start (held_file heads bodies m) n → (take n next ++ (end ∷ [])) ++ drop (suc n) starts ≡ (own_index f).starts ++ drop (length (own_index f).starts) starts
        unfolding tabulate
        starts_are end q = rw (many_starts, v, firsts, q, start_held n)

        lists_are : own_lists (held_file heads bodies m) n ++ drop (own_start (held_file heads bodies m) n) lists ≡ (own_index f).lists ++ drop (length (own_index f).lists) lists
        lists_are = rw (many_lists, v, lists_held n)

        pub index_built : (end : ℕ) (starts₂ lists₂ : List ℕ)
            → end ≡ own_start (held_file heads bodies m) n
            → starts₂ ≡ (take n next ++ (end ∷ [])) ++ drop (suc n) starts
            → lists₂ ≡ own_lists (held_file heads bodies m) n ++ drop (own_start (held_file heads bodies m) n) lists
            → ◌≡◌ {A = IndexOutcome} (record { reply = Ok end; starts = starts₂; lists = lists₂ }) (index_for f starts lists)
        index_built end starts₂ lists₂ a b c =
            rw (
              le-leb (length (own_index f).starts) (length starts) (omega (arith, many_starts)),
              le-leb (length (own_index f).lists) (length lists) (omega (arith, many_lists)),
              b ∙ starts_are end a,
              c ∙ lists_are,
              a ∙ sym many_lists,
            )
