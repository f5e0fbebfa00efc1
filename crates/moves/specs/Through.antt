-- What is claimed of changes through an index.
use Rattle.std.specs.Prelude.{ℕ, ◌+◌, ◌<◌, ◌≡◌, true, false, List, length, get_or, set, None, Some}
use Rattle.refusal.specs.Lists.{is_one_of}
use Rattle.refusal.specs.Result.{Ok}
use Rattle.constraint.specs.File.{File}
use Rattle.constraint.specs.Read.{read_file}
use Rattle.judge.specs.Judge.{fresh_verdicts, fresh_results}
use Rattle.judge.specs.InUse.{Tables, row_in_use}
use Rattle.index.specs.Index.{Index}
use Rattle.index.specs.AnyIndex.{list_in}
use Rattle.index.specs.Claims.{IsOwn}
use Rattle.moves.specs.declared.Effect.{Effect}
use Rattle.moves.specs.Gate.{changing}
use Rattle.moves.specs.Change.{change_outcome}

-- "A change through the file's own index gives the answers and tables of one without": on any tables
abbrev pub OwnIndexSame : Type 0
OwnIndexSame =
    (constraint : List ℕ) (t : Tables) (i v : ℕ) (f : File) (x : Index)
    → read_file constraint ≡ Ok f
    → IsOwn f x
    → change_outcome constraint t (changing i v (Some x)) ≡ change_outcome constraint t (changing i v None)

-- a column of a table of lines: the entries of the lines listed are fresh, all others as they were
pub record JustLines (f : File) (list fresh old new : List ℕ) : Type 0 where
  pub listed : (j : ℕ) → j < length f.lines → is_one_of (1 + j) list ≡ true → get_or new j 0 ≡ get_or fresh j 0
  pub others : (j : ℕ) → is_one_of (1 + j) list ≡ false → get_or new j 0 ≡ get_or old j 0

-- "it renews, and counts as named, just the lines listed": an accepted change of the variable i to v, from the tables t to t'
pub record JustListed (f : File) (x : Index) (i v : ℕ) (t : Tables) (e : Effect) (t' : Tables) : Type 0 where
  pub named : e.named ≡ length (list_in x i)
  pub values_are : t'.values ≡ set t.values i v
  pub verdicts : JustLines f (list_in x i) (fresh_verdicts f (row_in_use f t'.values)) t.verdicts t'.verdicts
  pub results : JustLines f (list_in x i) (fresh_results f (row_in_use f t'.values)) t.results t'.results

-- "Through any other fitting index": one that does not fit is refused 25
abbrev pub RenewsJustListed : Type 0
RenewsJustListed =
    (constraint : List ℕ) (t : Tables) (i v : ℕ) (f : File) (x : Index) (e : Effect)
    → read_file constraint ≡ Ok f
    → let o = change_outcome constraint t (changing i v (Some x)) in o.reply ≡ Ok e → JustListed f x i v t e o.tables
