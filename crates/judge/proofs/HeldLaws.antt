-- The judge on the tables that hold an accepted file. Assumes nothing.
use mathlib.Core.Path.{◌≡◌, sym}
use mathlib.Core.List.{List}
use Prim.Native.Nat.{ℕ, ◌<◌}
use Rattle.refusal.specs.Result.{Ok}
use Rattle.constraint.specs.File.{Variable}
use Rattle.constraint.specs.Read.{read_file}
use Rattle.constraint.specs.Sound.{Each}
use Rattle.constraint.proofs.SoundLaws.{accepted_is_sound}
use Rattle.store.specs.declared.Progress.{Progress}
use Rattle.store.specs.Tables.{Store, variables_in, lines_in, AllHeadsFit}
use Rattle.store.specs.Progress.{stored_file, HeadsInUseFit}
use Rattle.judge.specs.Claims.{RowFits}
use Rattle.judge.specs.Fitting.{Fitting, Judgeable}
use Rattle.judge.proofs.VerdictLaws.{each_line}
use Rattle.judge.proofs.FitLaws.{fits_fit}

-- lines that keep their rules, and whose heads have the widths of their operands
pub judgeable_all : (xs : List Variable) (row heads bodies : List ℕ) (m : ℕ) → AllHeadsFit xs heads bodies m → Each (Fitting xs row) (lines_in heads bodies m) → (k : ℕ) → k < m → Judgeable row heads bodies k
judgeable_all xs row heads bodies m f h k p = record { variables = xs; heads_fit = f k p; rules = each_line (Fitting xs row) heads bodies m k h p }

-- so do an accepted file's, where the row fits
pub lines_fit : (bytes : List ℕ) (t : Store) (p : Progress) (row : List ℕ) → Ok (stored_file bytes t p) ≡ read_file bytes → HeadsInUseFit bytes t p → RowFits (variables_in bytes t.variables p.variables) row → (k : ℕ) → k < p.lines → Judgeable row t.heads t.bodies k
lines_fit bytes t p row e f h =
    judgeable_all (variables_in bytes t.variables p.variables) row t.heads t.bodies p.lines f (fits_fit (stored_file bytes t p) row (accepted_is_sound bytes (stored_file bytes t p) (sym e)) h)
