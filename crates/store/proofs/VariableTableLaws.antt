-- The table of variables. Assumes nothing.
use mathlib.Core.Path.{◌≡◌, ap}
use mathlib.Core.List.{List, []}
use Prim.Native.Nat.{ℕ, ◌+◌, ◌%◌, ◌≤◌, ◌<◌}
use native.Mathlib.Decide.{dec_lt}
use native.Mathlib.Omega.{arith}
use lib.ListN.{length, get_or, take, drop, get_or-eq_default}
use Rattle.edition.specs.Edition.{max_name_bytes, max_width}
use Rattle.constraint.specs.File.{Variable, variable_at, name_at, width_at}
use Rattle.store.specs.Tables.{tabulate, variable_mark, length_unit, first_unit, entry_bound, name_start, name_length, word_width, next_entry, first_entry, with_word_of, with_first_entry, variable_of, variable_in, variables_in}
use Rattle.store.proofs.TableLaws.{length-tabulate, get_d_tabulate}

abbrev nothing : Variable
nothing = record { name = []; width = 0 }

module _ (file table : List ℕ) (n i : ℕ) where
  held : i < n → variable_at (variables_in file table n) i ≡ variable_of file (get_or table i 0)
  unfolding variables_in variable_in
  held h = get_d_tabulate (variable_in file table) n i nothing h

  None : n ≤ i → variable_at (variables_in file table n) i ≡ nothing
  unfolding variables_in
  None h =
      let l : length (tabulate (variable_in file table) n) ≤ i = omega (arith, length-tabulate (variable_in file table) n) in
      get_or-eq_default (tabulate (variable_in file table) n) nothing l

  pub width_held : i < n → width_at (variables_in file table n) i ≡ word_width (get_or table i 0)
  unfolding width_at variable_of
  width_held h = ap (λ x. x.width) (held h)

  pub width_none : n ≤ i → width_at (variables_in file table n) i ≡ 0
  unfolding width_at
  width_none h = ap (λ x. x.width) (None h)

  pub name_held : i < n → name_at (variables_in file table n) i ≡ take (name_length (get_or table i 0)) (drop (name_start (get_or table i 0)) file)
  unfolding name_at variable_of
  name_held h = ap (λ x. x.name) (held h)

  pub name_none : n ≤ i → name_at (variables_in file table n) i ≡ []
  unfolding name_at
  name_none h = ap (λ x. x.name) (None h)

pub width_below : (file table : List ℕ) (n i : ℕ) → width_at (variables_in file table n) i < variable_mark
unfolding word_width
width_below file table n i = elim (dec_lt i n) [
  | yes h ↦ rw (width_held file table n i h) (omega arith)
  | no h ↦ let l : n ≤ i = omega arith in rw (width_none file table n i l) (omega arith)
]

-- ---- words
-- a variable and its next entry go by the digits of a word below its first entry
module _ (word other : ℕ) (e : word % first_unit ≡ other % first_unit) where
  start_alike : name_start word ≡ name_start other
  unfolding name_start
  start_alike = omega arith

  length_alike : name_length word ≡ name_length other
  unfolding name_length
  length_alike = omega arith

  width_alike : word_width word ≡ word_width other
  unfolding word_width
  width_alike = omega arith

  pub next_alike : next_entry word ≡ next_entry other
  unfolding next_entry
  next_alike = omega arith

  pub within_alike : name_start word + name_length word ≡ name_start other + name_length other
  within_alike = rw (start_alike, length_alike)

  pub variable_alike : (file : List ℕ) → variable_of file word ≡ variable_of file other
  unfolding variable_of
  variable_alike file = rw (start_alike, length_alike, width_alike)

-- a word with another first entry
module _ (word entry : ℕ) where
  pub first_put : first_entry (with_first_entry word entry) ≡ entry
  unfolding first_entry with_first_entry
  first_put = omega arith

  pub first_beside : with_first_entry word entry % first_unit ≡ word % first_unit
  unfolding with_first_entry
  first_beside = omega arith

-- a word gives back what was put into it
module _ (word start len width next : ℕ) (s : start < length_unit) (l : len ≤ max_name_bytes) (w : width ≤ max_width) (n : next < entry_bound) where
  abbrev put : ℕ
  put = with_word_of word start len width next

  pub entry_kept : first_entry put ≡ first_entry word
  unfolding first_entry with_word_of
  entry_kept = omega arith

  pub next_put : next_entry put ≡ next
  unfolding next_entry with_word_of
  next_put = omega arith

  start_put : name_start put ≡ start
  unfolding name_start with_word_of
  start_put = omega arith

  length_put : name_length put ≡ len
  unfolding name_length with_word_of
  length_put = omega arith

  width_put : word_width put ≡ width
  unfolding word_width with_word_of
  width_put = omega arith

  pub within_put : name_start put + name_length put ≡ start + len
  within_put = rw (start_put, length_put)

  pub variable_put : (file : List ℕ) → variable_of file put ≡ record { name = take len (drop start file); width = width }
  unfolding variable_of
  variable_put file = rw (start_put, length_put, width_put)
