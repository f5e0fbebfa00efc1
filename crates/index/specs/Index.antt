-- The index of a file: which lines name a variable; and the call that builds it.
use Rattle.std.specs.Prelude.{ℕ, zero, suc, Bool, cond, List, [], ◌∷◌, ◌++◌, leb, length, drop}
use Rattle.refusal.specs.declared.Subject.TheVariants.{Starts, Lists}
use Rattle.refusal.specs.declared.Fault.TheVariants.{TooShort}
use Rattle.refusal.specs.Result.{Reply, Ok, Err, refusal, ensure, ◌>>=◌, ◌>>◌}
use Rattle.constraint.specs.File.{File}
use Rattle.constraint.specs.Read.{read_file}
use Rattle.store.specs.Tables.{tabulate}
use Rattle.index.specs.declared.LentIndex.{LentIndex}
use Rattle.index.specs.Select.{naming}

-- "two lent tables of 32-bit numbers: where each variable's list starts, from 0, with the end of the last; and the lists"
pub record Index : Type 0 where
  pub starts : List ℕ
  pub lists : List ℕ

abbrev pub index_of : List ℕ → List ℕ → Index
index_of starts lists = record { starts = starts; lists = lists }

-- the index that is lent
abbrev pub lent_index : LentIndex → Index
lent_index lent = index_of lent.starts.now lent.lists.now

-- THE FILE'S OWN

-- the numbers of the selected lines, the first line being n: "ascending, each once"
unfoldable pub numbers_from : ℕ → List Bool → List ℕ
numbers_from n [] = []
numbers_from n (b ∷ bs) = let rest = numbers_from (suc n) bs in cond b (n ∷ rest) rest

-- the list of the variable i: "the lines that name the variable", from 1
unfoldable pub own_list : File → ℕ → List ℕ
own_list f i = numbers_from 1 (naming f i)

-- the lists of the first i variables, one behind the other
unfoldable pub own_lists : File → ℕ → List ℕ
own_lists f zero = []
own_lists f (suc i) = own_lists f i ++ own_list f i

-- a list starts where those before it end
unfoldable pub own_start : File → ℕ → ℕ
own_start f i = length (own_lists f i)

-- the starts of all variables and the end, and their lists
abbrev pub own_index : File → Index
own_index f = record { starts = tabulate (own_start f) (suc (length f.variables)); lists = own_lists f (length f.variables) }

-- BUILDING IT

-- of a file that is read: "21 for its room when building", of the starts, then of the lists
abbrev pub indexing_for : File → List ℕ → List ℕ → Reply File
indexing_for f starts lists = do
  ensure (leb (length (own_index f).starts) (length starts)) (refusal Starts TooShort 0)
  ensure (leb (length (own_index f).lists) (length lists)) (refusal Lists TooShort 0)
  Ok f

-- the constraint file's refusals come first
unfoldable pub indexing : List ℕ → List ℕ → List ℕ → Reply File
indexing constraint starts lists = do
  f ← read_file constraint
  indexing_for f starts lists

-- the reply and the two tables at exit
pub record IndexOutcome : Type 0 where
  pub reply : Reply ℕ
  pub starts : List ℕ
  pub lists : List ℕ

-- accepted, the index stands in front of what was behind it, and the reply says how many lines are listed; refused, nothing changes
abbrev pub indexed : List ℕ → List ℕ → Reply File → IndexOutcome
indexed starts lists (Ok f) = record {
  reply = Ok (length (own_index f).lists);
  starts = (own_index f).starts ++ drop (length (own_index f).starts) starts;
  lists = (own_index f).lists ++ drop (length (own_index f).lists) lists;
}
indexed starts lists (Err r) = record { reply = Err r; starts = starts; lists = lists }

-- INDEX: the contract of the call
abbrev pub index_outcome : List ℕ → List ℕ → List ℕ → IndexOutcome
index_outcome constraint starts lists = indexed starts lists (indexing constraint starts lists)
