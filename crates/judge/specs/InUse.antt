-- The lent tables: values, "one for each variable in declaration order"; verdicts and results, "one for each `c` or `p` line". All may be longer.
use Rattle.std.specs.Prelude.{ℕ, ◌≤◌, not, ltb, leb, length, take, drop}
use mathlib.Core.List.{List, ◌++◌, zip_with}
use Rattle.std.specs.Prelude.{Option}
use Rattle.refusal.specs.declared.Subject.{Subject}
use Rattle.refusal.specs.declared.Subject.TheVariants.{Values, Verdicts, Results}
use Rattle.refusal.specs.declared.Fault.TheVariants.{TooShort, HeldDoesNotFit}
use Rattle.refusal.specs.Lists.{first_from}
use Rattle.refusal.specs.Result.{Reply, refusal, ensure, ensure_none, ◌>>◌}
use Rattle.arithmetic.specs.declared.Word.{Word}
use Rattle.arithmetic.specs.Rules.{fits}
use Rattle.constraint.specs.File.{Variable, File}
use Rattle.judge.specs.Verdict.{verdict_disregarded}
use Rattle.judge.specs.Judge.{fresh_verdicts, fresh_results}

pub record Tables : Type 0 where
  pub values : List ℕ
  pub verdicts : List ℕ
  pub results : List ℕ

abbrev pub tables_of : List ℕ → List ℕ → List ℕ → Tables
tables_of values verdicts results = record { values = values; verdicts = verdicts; results = results }

-- THE ENTRIES IN USE

-- of a table of values: a row; of a table of lines: a column
abbrev pub row_in_use : File → List ℕ → List ℕ
row_in_use f values = take (length f.variables) values

abbrev pub column_in_use : File → List ℕ → List ℕ
column_in_use f column = take (length f.lines) column

abbrev pub in_use : File → Tables → Tables
in_use f t = tables_of (row_in_use f t.values) (column_in_use f t.verdicts) (column_in_use f t.results)

-- entries in use, in front of what stands behind those of other tables
abbrev pub put_in_use : File → Tables → Tables → Tables
put_in_use f used t =
    let row = length f.variables in
    let column = length f.lines in
    tables_of (used.values ++ drop row t.values) (used.verdicts ++ drop column t.verdicts) (used.results ++ drop column t.results)

-- what a fresh check makes of a row
abbrev pub fresh_tables : File → List ℕ → Tables
fresh_tables f row = tables_of row (fresh_verdicts f row) (fresh_results f row)

-- THEIR ROOM

-- how many entries of each table are lent
pub record Room : Type 0 where
  pub values : ℕ
  pub verdicts : ℕ
  pub results : ℕ

abbrev pub room_of : Tables → Room
room_of t = record { values = length t.values; verdicts = length t.verdicts; results = length t.results }

-- there is room for all entries in use
pub record EnoughRoom (f : File) (lent : Room) : Type 0 where
  pub values : length f.variables ≤ lent.values
  pub verdicts : length f.lines ≤ lent.verdicts
  pub results : length f.lines ≤ lent.results

-- 21, of a table with n entries: no fewer than are in use
abbrev pub values_room : File → ℕ → Reply (Unit {0})
values_room f n = ensure (leb (length f.variables) n) (refusal Values TooShort 0)

abbrev pub column_room : Subject → File → ℕ → Reply (Unit {0})
column_room subject f n = ensure (leb (length f.lines) n) (refusal subject TooShort 0)

-- "Of several short tables 21 speaks of the first: values, verdicts, then later ones as requests added them"
unfoldable pub tables_room : File → Room → Reply (Unit {0})
tables_room f lent = do
  values_room f lent.values
  column_room Verdicts f lent.verdicts
  column_room Results f lent.results

-- WHAT THEY HOLD: any word may stand among the results

-- the values of a row, each at its variable's width
unfoldable pub value_words : List Variable → List ℕ → List Word
value_words = zip_with (λ x v. record { width = x.width; value = v })

-- the number of the first value of a row that does not fit its variable
unfoldable pub first_unfit : List Variable → List ℕ → Option ℕ
first_unfit xs row = first_from (λ w. not (fits w)) 0 (value_words xs row)

-- 24: "a held value doesn't fit, or a verdict above 2", at the "first such entry, from 0"
abbrev pub values_fit : File → List ℕ → Reply (Unit {0})
values_fit f values = ensure_none (first_unfit f.variables (row_in_use f values)) (refusal Values HeldDoesNotFit)

abbrev pub verdicts_fit : File → List ℕ → Reply (Unit {0})
verdicts_fit f verdicts = ensure_none (first_from (ltb verdict_disregarded) 0 (column_in_use f verdicts)) (refusal Verdicts HeldDoesNotFit)
