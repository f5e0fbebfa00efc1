-- What the results of this crate's functions mean, in terms of the definitions.
use Rattle.std.specs.Prelude.{ℕ, ◌+◌, ◌≤◌, ◌<◌, ◌≡◌, Bool, true, cond, List, ◌++◌, eqb, length, get_or, take, drop, set, Option, None, Some}
use Rattle.refusal.specs.Result.{Reply, ◌>>◌}
use Rattle.constraint.specs.File.{Variable, File}
use Rattle.store.specs.Tables.{line_in}
use Rattle.judge.specs.declared.Judged.{Judged}
use Rattle.judge.specs.Judge.{verdict_byte, judge, fresh_verdicts, fresh_results}
use Rattle.judge.specs.InUse.{values_fit, verdicts_fit}
use Rattle.index.specs.Select.{selected}
use Rattle.index.specs.Index.{Index}
use Rattle.index.specs.AnyIndex.{list_in, list_fits}
use Rattle.moves.specs.declared.Renewal.{Renewal}
use Rattle.moves.specs.Step.{Change, renewed, differing}
use Rattle.moves.specs.Gate.{change_fits}

-- the tests between those of the room and of an index: the call's own numbers and those in the tables fit, 23, 18, 24
abbrev pub numbers_fit : File → List ℕ → List ℕ → Change → Reply (Unit {0})
numbers_fit f values verdicts c = change_fits f c >> (values_fit f values >> verdicts_fit f verdicts)

-- the columns of the tables of lines
pub record Columns : Type 0 where
  pub verdicts : List ℕ
  pub results : List ℕ

abbrev pub columns_of : List ℕ → List ℕ → Columns
columns_of verdicts results = record { verdicts = verdicts; results = results }

abbrev pub fresh_columns : File → List ℕ → Columns
fresh_columns f row = columns_of (fresh_verdicts f row) (fresh_results f row)

-- what is judged on line k in the table, and columns with it put in at k
abbrev pub judged_in : List Variable → List ℕ → List ℕ → List ℕ → ℕ → Judged
judged_in xs row heads bodies k = judge xs row (line_in heads bodies k)

abbrev pub set_line : Columns → ℕ → Judged → Columns
set_line columns k fresh = columns_of (set columns.verdicts k (verdict_byte fresh.verdict)) (set columns.results k fresh.result)

-- whether a verdict became different, as a number
abbrev pub differs : ℕ → ℕ → ℕ
differs old new = cond (eqb old new) 0 1

-- line k is made anew and counted where a test passes, else all are as they were
pub record RenewedIf (test : Bool) (fresh : Judged) (k : ℕ) (old new : Columns) (r : Renewal) : Type 0 where
  pub made : new ≡ cond test (set_line old k fresh) old
  pub counted : r.named ≡ cond test 1 0
  pub differed : r.altered ≡ cond test (differs (get_or old.verdicts k 0) (verdict_byte fresh.verdict)) 0

-- a column: of its first m entries those of the selected lines are fresh, and those behind them are as they were
abbrev pub renewed_front : List Bool → List ℕ → ℕ → List ℕ → List ℕ
renewed_front lines fresh m old = renewed lines fresh (take m old) ++ drop m old

-- of the first m lines the selected ones are made anew and counted
pub record Renewed (lines : List Bool) (fresh : Columns) (m : ℕ) (old new : Columns) (r : Renewal) : Type 0 where
  pub made : new ≡ columns_of (renewed_front lines fresh.verdicts m old.verdicts) (renewed_front lines fresh.results m old.results)
  pub counted : r.named ≡ selected lines
  pub differed : r.altered ≡ differing (take m old.verdicts) (renewed lines fresh.verdicts (take m old.verdicts))

-- the list of the variable i in an index stands within its tables, and fits m lines
pub record ListFitting (m : ℕ) (x : Index) (i : ℕ) : Type 0 where
  pub there : i + 1 < length x.starts
  pub rises : get_or x.starts i 0 ≤ get_or x.starts (i + 1) 0
  pub within : get_or x.starts (i + 1) 0 ≤ length x.lists
  pub fits : list_fits m (list_in x i) ≡ true

-- the same of the index, if there is one
abbrev pub IndexListFitting : ℕ → Option Index → ℕ → Type 0
IndexListFitting m None i = Unit {0}
IndexListFitting m (Some x) i = ListFitting m x i
