-- Values that fit their variables: as the test of a row says it, and as the lines of a file need it. Assumes nothing.
use Prim.Native.Nat.{ℕ, zero, suc, ◌≤◌, ◌<◌, ◌^◌}
use mathlib.Core.Path.{◌≡◌, refl}
use mathlib.Core.Bool.{true}
use mathlib.Core.List.{List, [], ◌∷◌, zip_with}
use Rattle.std.specs.Prelude.{None}
use native.Mathlib.Decide.{dec_lt}
use native.Mathlib.Omega.{arith}
use lib.ListN.{length, get_or, get_or-eq_default}
use lib.Pow.{pow_pos}
use borrow.Author.Tests.{not-false}
use Rattle.refusal.specs.Lists.{first_from}
use Rattle.refusal.proofs.ListLaws.{first_none}
use Rattle.arithmetic.specs.declared.Word.{Word}
use Rattle.arithmetic.specs.Rules.{fits}
use Rattle.arithmetic.proofs.RuleLaws.{fits_is, is_fits, operands_pass}
use Rattle.constraint.specs.declared.Operand.{Operand}
use Rattle.constraint.specs.declared.Operand.TheVariants.{Absent, Var, Const}
use Rattle.constraint.specs.declared.Line.{Line}
use Rattle.constraint.specs.File.{Variable, File, width_at, operand_word}
use Rattle.constraint.specs.Sound.{Each, SoundOperand, SoundLine, SoundFile}
use Rattle.constraint.proofs.EachLaws.{each_map}
use Rattle.judge.specs.InUse.{value_words, first_unfit}
use Rattle.judge.specs.Claims.{RowFits}
use Rattle.judge.specs.Fitting.{Fitting}
use Rattle.judge.proofs.UnfitLaws.{unfit}
use Rattle.judge.proofs.RuleLaws.{line_widths, line_typed}

-- ---- a row passes its test exactly where its values fit
all_fit : (n : ℕ) (xs : List Variable) (row : List ℕ) (i : ℕ) → length row ≡ length xs → first_from unfit n (value_words xs row) ≡ None → i < length xs → get_or row i 0 < 2 ^ width_at xs i
unfolding value_words zip_with width_at
all_fit n [] row i h e p = let z : ⊥ = omega arith in absurd z
all_fit n (x ∷ xs) [] i h e p = let z : ⊥ = omega arith in absurd z
all_fit n (x ∷ xs) (v ∷ row) zero h e p =
    let w : Word = record { width = x.width; value = v } in
    fits_is w (not-false (fits w) (first_none unfit n w (value_words xs row) e).0)
all_fit n (x ∷ xs) (v ∷ row) (suc i) h e p =
    let w : Word = record { width = x.width; value = v } in
    all_fit (suc n) xs row i (omega arith) (first_none unfit n w (value_words xs row) e).1 (omega arith)

none_unfit : (n : ℕ) (xs : List Variable) (row : List ℕ) → ((i : ℕ) → get_or row i 0 < 2 ^ width_at xs i) → first_from unfit n (value_words xs row) ≡ None
unfolding value_words zip_with width_at first_from
none_unfit n [] row h = refl
none_unfit n (x ∷ xs) [] h = refl
none_unfit n (x ∷ xs) (v ∷ row) h =
    let w : Word = record { width = x.width; value = v } in
    rw (is_fits w (h 0)) (none_unfit (suc n) xs row (λ i. h (suc i)))

-- behind the last variable there is only 0
pub fits_none : (xs : List Variable) (row : List ℕ) → length row ≡ length xs → ((i : ℕ) → i < length xs → get_or row i 0 < 2 ^ width_at xs i) → RowFits xs row
fits_none xs row l h i = elim (dec_lt i (length xs)) [
  | yes p ↦ h i p
  | no p ↦ let q : length row ≤ i = omega arith in rw (get_or-eq_default row 0 q) (pow_pos (width_at xs i))
]

module _ (xs : List Variable) (row : List ℕ) where
  pub row_fits : length row ≡ length xs → first_unfit xs row ≡ None → RowFits xs row
  unfolding first_unfit
  row_fits l e = fits_none xs row l (λ i p. all_fit 0 xs row i l e p)

  pub unfit_none : RowFits xs row → first_unfit xs row ≡ None
  unfolding first_unfit
  unfit_none h = none_unfit 0 xs row h

-- ---- sound lines keep their rules
module _ (xs : List Variable) (row : List ℕ) (h : RowFits xs row) where
  word_fits : (o : Operand) → SoundOperand xs o → fits (operand_word xs row o) ≡ true
  unfolding operand_word
  word_fits Absent s = is_fits (record { width = 0; value = 0 }) (pow_pos 0)
  word_fits (Var i) s = is_fits (record { width = width_at xs i; value = get_or row i 0 }) (h i)
  word_fits (Const w) s = is_fits w s.1

  pub line_fits : (l : Line) → SoundLine xs l → Fitting xs row l
  line_fits l s =
      let os = l.operands in
      record {
        widths = line_widths xs row l s;
        rule = line_typed xs row l s;
        fit = operands_pass l.operator (operand_word xs row os.first) (operand_word xs row os.second) (operand_word xs row os.third) (word_fits os.first s.first) (word_fits os.second s.second) (word_fits os.third s.third);
      }

pub fits_fit : (f : File) (row : List ℕ) → SoundFile f → RowFits f.variables row → Each (Fitting f.variables row) f.lines
fits_fit f row s h = each_map (line_fits f.variables row h) f.lines s.lines
