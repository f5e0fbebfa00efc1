-- One value put in, and the lines concerned renewed: the core of a change.
use Rattle.std.specs.Prelude.{ℕ, Bool, cond, not, eqb, get_or, set, Option}
use mathlib.Core.List.{List, [], ◌∷◌, zip_with}
use Rattle.edition.specs.Word.{word_bits}
use Rattle.refusal.specs.Lists.{how_many}
use Rattle.arithmetic.specs.Bits.{differing_bits}
use Rattle.constraint.specs.File.{File}
use Rattle.judge.specs.Judge.{fresh_verdicts, fresh_results, overall_of}
use Rattle.judge.specs.InUse.{Tables, tables_of}
use Rattle.index.specs.Select.{selected}
use Rattle.index.specs.Index.{Index}
use Rattle.index.specs.AnyIndex.{concerned}
use Rattle.moves.specs.declared.Effect.{Effect}

-- THE STEP

-- a change "names a variable (from 0) and a value"
pub record Change : Type 0 where
  pub variable : ℕ
  pub value : ℕ

-- a table with the fresh entries of the selected lines, the others as they are held
unfoldable pub renewed : List Bool → List ℕ → List ℕ → List ℕ
renewed [] fresh held = []
renewed (b ∷ bs) [] held = []
renewed (b ∷ bs) (x ∷ fresh) [] = []
renewed (b ∷ bs) (x ∷ fresh) (h ∷ held) = cond b x h ∷ renewed bs fresh held

-- "it stores the value, renews the verdict of each line that names the variable as output or operand, and changes no other entry"; results it renews "with the verdicts"; through an index it renews "just the lines listed"
unfoldable pub step : File → Option Index → Change → Tables → Tables
step f x c t =
    let row = set t.values c.variable c.value in
    let lines = concerned f x c.variable in
    tables_of row (renewed lines (fresh_verdicts f row) t.verdicts) (renewed lines (fresh_results f row) t.results)

-- THE ANSWER

-- in how many places two tables differ
unfoldable pub differing : List ℕ → List ℕ → ℕ
differing old new = how_many not (zip_with eqb old new)

-- by the entries in use before and after: "the overall verdict by the table, how many lines name the variable (a line counts once), how many verdict bytes became different, and the number of bits in which the old and the new value differ". Through an index it "counts as named, just the lines listed"
abbrev pub effect : File → Option Index → Change → Tables → Tables → Effect
effect f x c old new = record {
  overall = overall_of new.verdicts;
  named = selected (concerned f x c.variable);
  altered = differing old.verdicts new.verdicts;
  bits = differing_bits word_bits (get_or old.values c.variable 0) c.value;
}
