-- How a spelling is found: by its key.
use Rattle.std.specs.Prelude.{ℕ, zero, suc, ◌+◌, ◌*◌, ◌-◌, ◌%◌, ◌≡◌, Bool, true, false, cond, eqb, ltb, List, [], ◌∷◌, map, length, get_or, min, Option, Some, None}
use Prim.Native.String.{String}
use Rattle.edition.specs.declared.Edition.{Edition}
use Rattle.refusal.specs.Lists.{every}
use Rattle.refusal.specs.SubjectWords.{ascii}
use Rattle.arithmetic.specs.declared.Operator.{Operator}
use Rattle.arithmetic.specs.Numbering.{operator_number}
use Rattle.text.specs.Bytes.{same}
use Rattle.spelling.specs.Operators.{spellings}

-- the bytes of the longest spelling
abbrev pub longest : ℕ
longest = 4

-- how many keys there are
abbrev pub keys : ℕ
keys = 128

-- what the length is multiplied by in a key
abbrev pub length_factor : ℕ
length_factor = 8

-- the key of a text: its first, second and last byte and 8 times its length, modulo the number of keys; of one byte, that byte is all three
unfoldable pub key_of : List ℕ → ℕ
key_of s = let last = length s - 1 in (get_or s 0 0 + get_or s (min last 1) 0 + get_or s last 0 + length s * length_factor) % keys

-- the operator at a place of a table, if s is the spelling there
unfoldable pub spelt_at : List ℕ → List (List ℕ × Operator) → ℕ → Option Operator
spelt_at s [] i = None
spelt_at s (x ∷ xs) zero = cond (same x.0 s) (Some x.1) None
spelt_at s (x ∷ xs) (suc i) = spelt_at s xs i

-- the same at the place whose number goes with the key of s
abbrev pub spelt_by_key : List ℕ → List (List ℕ × Operator) → List ℕ → Option Operator
spelt_by_key numbers table s = spelt_at s table (get_or numbers (key_of s) 0)

-- whether it is the operator with a number
abbrev pub is_numbered : ℕ → Option Operator → Bool
is_numbered n None = false
is_numbered n (Some op) = eqb (operator_number op) n

-- a spelling with its operator, as it stands in a table
abbrev pub spelling_entry : String × Operator → List ℕ × Operator
spelling_entry x = (ascii x.0, x.1)

-- whether a spelling is found by its key
abbrev pub is_found : List ℕ → List (List ℕ × Operator) → String × Operator → Bool
is_found numbers table x = is_numbered (operator_number x.1) (spelt_by_key numbers table (ascii x.0))

-- by such tables each spelling is found by its key; each key has the number of a place
pub record FindByKeys (numbers : List ℕ) (table : List (List ℕ × Operator)) : Type 0 where
  pub keyed : length numbers ≡ keys
  pub placed : every (λ n. ltb n (length table)) numbers ≡ true
  pub listed : (e : Edition) → table ≡ map spelling_entry (spellings e)
  pub found : (e : Edition) → every (is_found numbers table) (spellings e) ≡ true
