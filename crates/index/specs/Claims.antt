-- What is claimed of a file's own index.
use Rattle.std.specs.Prelude.{ℕ, ◌≤◌, ◌≡◌, List, length, take, Option, None, Some}
use Rattle.refusal.specs.Result.{Ok}
use Rattle.constraint.specs.File.{File}
use Rattle.constraint.specs.Read.{read_file}
use Rattle.index.specs.Index.{Index, index_of, own_index, index_outcome}

-- entries stand in front of a table
abbrev pub StandsInFront : List ℕ → List ℕ → Type 0
StandsInFront table entries = entries ≡ take (length entries) table

-- "the file's own" index: its entries in use are the file's; both tables may be longer
pub record IsOwn (f : File) (x : Index) : Type 0 where
  pub starts : StandsInFront x.starts (own_index f).starts
  pub lists : StandsInFront x.lists (own_index f).lists

-- "no index or the file's own"
abbrev pub OwnOrNone : File → Option Index → Type 0
OwnOrNone f None = Unit {0}
OwnOrNone f (Some x) = IsOwn f x

-- an index that is built is the file's own
abbrev pub BuiltIsOwn : Type 0
BuiltIsOwn =
    (constraint starts lists : List ℕ) (f : File) (n : ℕ)
    → read_file constraint ≡ Ok f
    → (index_outcome constraint starts lists).reply ≡ Ok n
    → IsOwn f (index_of (index_outcome constraint starts lists).starts (index_outcome constraint starts lists).lists)

-- "4,096 in all at most"
abbrev pub max_listed : ℕ
max_listed = 4096

abbrev pub ListsAtMost : Type 0
ListsAtMost = (constraint : List ℕ) (f : File) → read_file constraint ≡ Ok f → length (own_index f).lists ≤ max_listed
