-- How names are found: chains of the variables whose names have the same bucket.
use Rattle.std.specs.Prelude.{ℕ, zero, suc, ◌+◌, ◌≤◌, ◌<◌, ◌≡◌, cond, List, eqb, length, get_or, set}
use Rattle.constraint.specs.Sound.{Distinct}
use Rattle.store.specs.Hash.{hash_of, buckets, bucket_of}
use Rattle.store.specs.Tables.{name_start, name_length, next_entry, first_entry, with_word_of, with_first_entry, variable_in, variables_in}

-- the last variable below n that has bucket b, as an entry: its number plus 1, or 0 where there is none
unfoldable pub last_below : (ℕ → ℕ) → ℕ → ℕ → ℕ
last_below bucket b zero = 0
last_below bucket b (suc m) = let rest = last_below bucket b m in cond (eqb (bucket m) b) (suc m) rest

-- n variables in chains: a bucket's first entry is the last of them that has it, a variable's next entry the last before it that has its own
pub record Chained (bucket first next : ℕ → ℕ) (n : ℕ) : Type 0 where
  pub first_is_last : (b : ℕ) → b < buckets → first b ≡ last_below bucket b n
  pub next_is_before : (v : ℕ) → v < n → next v ≡ last_below bucket (bucket v) v

-- the bucket of variable i, its next entry, and the first entry of bucket b
unfoldable pub bucket_in : List ℕ → List ℕ → ℕ → ℕ
bucket_in file table i = bucket_of (hash_of (variable_in file table i).name)

abbrev pub next_in : List ℕ → ℕ → ℕ
next_in table v = next_entry (get_or table v 0)

abbrev pub first_in : List ℕ → ℕ → ℕ
first_in table b = first_entry (get_or table b 0)

-- the first n variables can be found by their names: no two have the same, each lies within the file, and they are in chains
pub record Searchable (file table : List ℕ) (n : ℕ) : Type 0 where
  pub distinct : Distinct (variables_in file table n)
  pub within : (v : ℕ) → v < n → name_start (get_or table v 0) + name_length (get_or table v 0) ≤ length file
  pub chained : Chained (bucket_in file table) (first_in table) (next_in table) n

-- the table with variable n put in, in front of the chain of bucket b
unfoldable pub with_name : List ℕ → ℕ → ℕ → ℕ → ℕ → ℕ → List ℕ
with_name table n start len width b =
    let named = set table n (with_word_of (get_or table n 0) start len width (first_in table b)) in
    set named b (with_first_entry (get_or named b 0) (n + 1))
