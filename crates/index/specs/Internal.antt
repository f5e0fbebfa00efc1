-- What the results of this crate's functions mean, in terms of the definitions.
use Rattle.std.specs.Prelude.{ℕ, zero, suc, ◌+◌, ◌≤◌, ◌<◌, ◌≡◌, Bool, cond, List, [], eqb, length, get_or, None}
use Rattle.edition.specs.Edition.{max_variables}
use Rattle.constraint.specs.declared.Line.{Line}
use Rattle.constraint.specs.File.{Variable, File}
use Rattle.store.specs.Tables.{lines_in}
use Rattle.index.specs.declared.LineVariables.{LineVariables}
use Rattle.index.specs.Index.{indexing_for, IndexOutcome, indexed}
use Rattle.index.specs.Claims.{max_listed}

-- a file of these variables and lines, without version and expectation: indexes and changes need neither
abbrev pub file_of : List Variable → List Line → File
file_of xs ls = record { version = None; expectation = None; variables = xs; lines = ls }

-- 1 where a test passes
abbrev pub one : Bool → ℕ
one b = cond b 1 0

-- how many of four numbers are i
abbrev pub times_named : ℕ → LineVariables → ℕ
times_named i r = one (eqb i r.output) + one (eqb i r.first) + one (eqb i r.second) + one (eqb i r.third)

-- BUILDING AN INDEX

-- the file in the tables, as far as an index needs it
abbrev pub held_file : List ℕ → List ℕ → ℕ → File
held_file heads bodies m = file_of [] (lines_in heads bodies m)

-- the outcome once a file is read
abbrev pub index_for : File → List ℕ → List ℕ → IndexOutcome
index_for f starts lists = indexed starts lists (indexing_for f starts lists)

-- the entry at a place of a table
abbrev pub entry_of : List ℕ → ℕ → ℕ
entry_of l i = get_or l i 0

-- each variable's count is at most k
abbrev pub CountsAtMost : ℕ → List ℕ → Type 0
CountsAtMost k counts = (i : ℕ) → i < max_variables → get_or counts i 0 ≤ k

-- for each variable i its count grew by g i
abbrev pub CountsGrown : List ℕ → (ℕ → ℕ) → List ℕ → Type 0
CountsGrown before g after = (i : ℕ) → i < max_variables → get_or after i 0 ≡ get_or before i 0 + g i

-- the sum of the first n numbers
unfoldable pub sum_to : (ℕ → ℕ) → ℕ → ℕ
sum_to g zero = 0
sum_to g (suc n) = sum_to g n + g n

-- room for one entry more in the list of each variable i, of n, where t i is not 0: `next` says where it goes
abbrev pub ListRoom : ℕ → (ℕ → ℕ) → List ℕ → List ℕ → Type 0
ListRoom n t next lists = (i : ℕ) → i < n → 0 < t i → (get_or next i 0 < length lists) × (get_or next i 0 < max_listed)

-- the number x put there, and `next` moved on
pub record LinePut (n : ℕ) (t : ℕ → ℕ) (x : ℕ) (next lists next₂ lists₂ : List ℕ) : Type 0 where
  pub next_long : length next₂ ≡ length next
  pub lists_long : length lists₂ ≡ length lists
  pub moved : (i : ℕ) → i < n → get_or next₂ i 0 ≡ get_or next i 0 + t i
  pub put : (i : ℕ) → i < n → 0 < t i → get_or lists₂ (get_or next i 0) 0 ≡ x
  pub same : (p : ℕ) → get_or lists p 0 ≡ x → get_or lists₂ p 0 ≡ x
  pub other : (p : ℕ) → ((i : ℕ) → i < n → 0 < t i → p ≡ get_or next i 0 → ⊥) → get_or lists₂ p 0 ≡ get_or lists p 0
