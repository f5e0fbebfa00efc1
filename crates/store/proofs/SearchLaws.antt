-- Tables whose names can be found: none yet, one more, and what a walk along a chain finds. Assumes nothing.
use Prim.Native.Nat.{ℕ, ◌+◌, ◌%◌, ◌≤◌, ◌<◌}
use mathlib.Core.Path.{◌≡◌, refl, ap, sym, subst, ◌∙◌}
use mathlib.Core.Bool.{Bool, true, false}
use mathlib.Core.List.{List, [], ◌∷◌, ◌++◌}
use Rattle.std.specs.Prelude.{None, Some}
use native.Mathlib.Decide.{dec_lt, ℕ_discrete}
use native.Mathlib.Omega.{arith}
use lib.ListN.{length, get_or, set, take, drop, replicate, length-set, get_or-replicate}
use lib.Seq.{get_or-set_same, get_or-set_other}
use Rattle.edition.specs.Edition.{max_variables, max_name_bytes, max_width}
use Rattle.refusal.proofs.BoolLaws.{fails}
use Rattle.refusal.proofs.ResultLaws.{never}
use Rattle.text.specs.Bytes.{same}
use Rattle.text.proofs.NameLaws.{same_true, same_self}
use Rattle.constraint.specs.File.{Variable, variable_named}
use Rattle.constraint.specs.Sound.{Distinct}
use Rattle.constraint.proofs.EachLaws.{each_map, each_fails, distinct_last}
use Rattle.store.specs.Hash.{hash_of, buckets, bucket_of}
use Rattle.store.specs.Names.{bucket_in, next_in, first_in, Searchable, with_name}
use Rattle.store.specs.Tables.{tabulate, length_unit, first_unit, entry_bound, name_start, name_length, first_entry, with_word_of, with_first_entry, variable_of, variable_in, variables_in}
use Rattle.store.proofs.ChainLaws.{last_none, last_le, chained_more, Walk}
use Rattle.store.proofs.LookupLaws.{named_nowhere, named_there}
use Rattle.store.proofs.TableLaws.{tabulate_suc, tabulate_cong}
use Rattle.store.proofs.VariableTableLaws.{next_alike, within_alike, variable_alike, first_put, first_beside, entry_kept, next_put, within_put, variable_put}

-- ---- no variable yet, in a table of zeros
zero_first : (b : ℕ) → b < buckets → first_in (replicate max_variables 0) b ≡ 0
unfolding first_entry
zero_first b h = rw (get_or-replicate {A = ℕ} max_variables b 0 0 h)

pub searchable_none : (file : List ℕ) → Searchable file (replicate max_variables 0) 0
unfolding variables_in tabulate
searchable_none file = record {
  distinct = tt;
  within = λ v h. (let z : ⊥ = omega arith in absurd z);
  chained = record {
    first_is_last = λ b h. zero_first b h ∙ sym (last_none (bucket_in file (replicate max_variables 0)) b);
    next_is_before = λ v h. (let z : ⊥ = omega arith in absurd z);
  };
}

-- ---- variable n put into a table, in front of the chain of bucket b
pub length_with_name : (table : List ℕ) (n start len width b : ℕ) → length (with_name table n start len width b) ≡ length table
unfolding with_name
length_with_name table n start len width b = simp length-set

module _ (table : List ℕ) (n start len width b : ℕ) (hn : n < length table) (hb : b < length table) (s : start < length_unit) (l : len ≤ max_name_bytes) (w : width ≤ max_width) (k : first_in table b < entry_bound) where
  abbrev put : ℕ
  put = with_word_of (get_or table n 0) start len width (first_in table b)

  abbrev named : List ℕ
  named = set table n put

  abbrev after : List ℕ
  after = with_name table n start len width b

  last_here : b < length named
  last_here = omega (arith, length-set table n put)

  -- below their first entries the words are those with the name
  below_first : (v : ℕ) → get_or after v 0 % first_unit ≡ get_or named v 0 % first_unit
  unfolding with_name
  below_first v = elim (ℕ_discrete v b) [
    | yes e ↦ rw (e, get_or-set_same named b (with_first_entry (get_or named b 0) (n + 1)) 0 last_here) (first_beside (get_or named b 0) (n + 1))
    | no e ↦ rw (get_or-set_other named b v (with_first_entry (get_or named b 0) (n + 1)) 0 e)
  ]

  word_here : get_or after n 0 % first_unit ≡ put % first_unit
  word_here = below_first n ∙ rw (get_or-set_same table n put 0 hn)

  word_other : (v : ℕ) → v < n → get_or after v 0 % first_unit ≡ get_or table v 0 % first_unit
  word_other v h = below_first v ∙ rw (get_or-set_other table n v put 0 (λ e. let z : ⊥ = omega arith in z))

  first_new : first_in after b ≡ n + 1
  unfolding with_name
  first_new = rw (get_or-set_same named b (with_first_entry (get_or named b 0) (n + 1)) 0 last_here) (first_put (get_or named b 0) (n + 1))

  first_named : (c : ℕ) → first_in named c ≡ first_in table c
  first_named c = elim (ℕ_discrete c n) [
    | yes e ↦ rw (e, get_or-set_same table n put 0 hn) (entry_kept (get_or table n 0) start len width (first_in table b) s l w k)
    | no e ↦ rw (get_or-set_other table n c put 0 e)
  ]

  first_other : (c : ℕ) → (c ≡ b → ⊥) → first_in after c ≡ first_in table c
  unfolding with_name
  first_other c e = rw (get_or-set_other named b c (with_first_entry (get_or named b 0) (n + 1)) 0 e) (first_named c)

  next_here : next_in after n ≡ first_in table b
  next_here = next_alike (get_or after n 0) put word_here ∙ next_put (get_or table n 0) start len width (first_in table b) s l w k

  next_other : (v : ℕ) → v < n → next_in after v ≡ next_in table v
  next_other v h = next_alike (get_or after v 0) (get_or table v 0) (word_other v h)

  module _ (file : List ℕ) where
    abbrev new : Variable
    new = record { name = take len (drop start file); width = width }

    variable_here : variable_in file after n ≡ new
    unfolding variable_in
    variable_here = variable_alike (get_or after n 0) put word_here file ∙ variable_put (get_or table n 0) start len width (first_in table b) s l w k file

    variable_other : (v : ℕ) → v < n → variable_in file after v ≡ variable_in file table v
    unfolding variable_in
    variable_other v h = variable_alike (get_or after v 0) (get_or table v 0) (word_other v h) file

    variables_with_name : variables_in file after (n + 1) ≡ variables_in file table n ++ (new ∷ [])
    unfolding variables_in
    variables_with_name =
        tabulate_suc (variable_in file after) n
        ∙ rw (variable_here, tabulate_cong (variable_in file after) (variable_in file table) n variable_other)

    module _ (held : Searchable file table n) (room : b < buckets) (whole : start + len ≤ length file) (hash : bucket_of (hash_of new.name) ≡ b) (fresh : variable_named new.name (variables_in file table n) ≡ None) where
      -- its name is no other variable's
      distinct_more : Distinct (variables_in file after (n + 1))
      unfolding variable_named
      distinct_more =
          let xs = variables_in file table n in
          let unlike : (x : Variable) → same x.name new.name ≡ false → x.name ≡ new.name → ⊥ = λ x e q. never (cc (sym e ∙ ap (λ s. same s new.name) q, same_self new.name)) in
          subst Distinct (sym variables_with_name) (distinct_last xs new held.distinct (each_map unlike xs (each_fails (λ x. same x.name new.name) 0 xs fresh)))

      within_more : (v : ℕ) → v < n + 1 → name_start (get_or after v 0) + name_length (get_or after v 0) ≤ length file
      within_more v h = elim (dec_lt v n) [
        | yes p ↦ rw (within_alike (get_or after v 0) (get_or table v 0) (word_other v p)) (held.within v p)
        | no p ↦ let e : v ≡ n = omega arith in rw (e, within_alike (get_or after n 0) put word_here, within_put (get_or table n 0) start len width (first_in table b) s l w k) whole
      ]

      bucket_other : (v : ℕ) → v < n → bucket_in file after v ≡ bucket_in file table v
      unfolding bucket_in
      bucket_other v h = rw (variable_other v h)

      bucket_here : bucket_in file after n ≡ b
      unfolding bucket_in
      bucket_here = rw variable_here hash

      searchable_with : Searchable file after (n + 1)
      searchable_with = record {
        distinct = distinct_more;
        within = within_more;
        chained = chained_more (bucket_in file table) (first_in table) (next_in table) (bucket_in file after) (first_in after) (next_in after) n b held.chained bucket_other bucket_here room first_other first_new next_other next_here;
      }

bucket_below : (h : ℕ) → bucket_of h < buckets
unfolding bucket_of
bucket_below h = omega arith

-- the name of a variable that is put in is in the file, and new
module _ (file table : List ℕ) (n start len width hash : ℕ) (held : Searchable file table n) (sized : length table ≡ max_variables) (room : n < max_variables) (s : start < length_unit) (l : len ≤ max_name_bytes) (w : width ≤ max_width) where
  entry_fits : first_in table (bucket_of hash) < entry_bound
  entry_fits = omega (arith, held.chained.first_is_last (bucket_of hash) (bucket_below hash), last_le (bucket_in file table) (bucket_of hash) n)

  in_table : bucket_of hash < length table
  in_table = omega (arith, bucket_below hash)

  pub variables_more : variables_in file (with_name table n start len width (bucket_of hash)) (n + 1) ≡ variables_in file table n ++ (record { name = take len (drop start file); width = width } ∷ [])
  variables_more = variables_with_name table n start len width (bucket_of hash) (omega arith) in_table s l w entry_fits file

  pub searchable_more : start + len ≤ length file → hash ≡ hash_of (take len (drop start file)) → variable_named (take len (drop start file)) (variables_in file table n) ≡ None → Searchable file (with_name table n start len width (bucket_of hash)) (n + 1)
  searchable_more h e fresh = searchable_with table n start len width (bucket_of hash) (omega arith) in_table s l w entry_fits file held (bucket_below hash) h (ap bucket_of (sym e)) fresh

-- ---- a walk along a chain, in search of a name
-- whether variable v has it
abbrev pub has : List ℕ → List ℕ → List ℕ → ℕ → Bool
has file table name v = same (variable_in file table v).name name

pub has_part : (file table name : List ℕ) (v : ℕ) → same (take (name_length (get_or table v 0)) (drop (name_start (get_or table v 0)) file)) name ≡ has file table name v
unfolding variable_in variable_of
has_part file table name v = refl

module _ (file table : List ℕ) (n : ℕ) (held : Searchable file table n) (name : List ℕ) where
  pub search_found : (v : ℕ) → v < n → has file table name v ≡ true → Some v ≡ variable_named name (variables_in file table n)
  search_found v h e = sym (named_there name file table n held.distinct v h e)

  -- the chain ends: a variable of that name would have its bucket
  pub search_ended : (b : ℕ) → b ≡ bucket_of (hash_of name) → Walk (bucket_in file table) n (has file table name) b 0 → None ≡ variable_named name (variables_in file table n)
  unfolding bucket_in
  search_ended b e w = sym (named_nowhere name file table n (λ v h. fails (has file table name v) (λ t. never (cc (t, w.passed v (omega arith) h (ap (λ s. bucket_of (hash_of s)) (same_true _ name t) ∙ sym e))))))
