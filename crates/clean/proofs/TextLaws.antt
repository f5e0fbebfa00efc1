-- The clean text of a file in the tables: its lines put one behind another. Assumes nothing.
use Prim.Native.Nat.{ℕ, ◌+◌, ◌≤◌}
use mathlib.Core.Path.{◌≡◌, refl, ap, ◌∙◌}
use mathlib.Core.List.{List, ◌++◌, append_assoc}
use native.Mathlib.Omega.{arith}
use lib.ListN.{length, length-append}
use Rattle.edition.specs.declared.Edition.{Edition}
use Rattle.edition.specs.Edition.{edition10}
use Rattle.spelling.specs.Operators.{spellings, spelling_of}
use Rattle.constraint.specs.declared.Line.{Line}
use Rattle.constraint.specs.File.{Variable, File, edition_of}
use Rattle.printing.specs.Room.{Put}
use Rattle.printing.proofs.PlaceLaws.{put_then}
use Rattle.clean_text.specs.Text.{version_line, expectation_lines, declaration_lines, statement_tokens, statement_line, statement_lines, later_lines, fed, clean_text}
use Rattle.clean.proofs.JoinedLaws.{fed_append}

-- every edition has the spellings of 1.0
any_edition : (e : Edition) (xs : List Variable) (ls : List Line) → statement_lines e xs ls ≡ statement_lines edition10 xs ls
unfolding statement_lines statement_line statement_tokens spelling_of spellings
any_edition e xs ls = refl

module _ (f : File) where
  abbrev version : List ℕ
  version = version_line (edition_of f)

  abbrev expectation : List ℕ
  expectation = fed (expectation_lines f.expectation)

  abbrev declarations : List ℕ
  declarations = fed (declaration_lines f.variables)

  abbrev statements : List ℕ
  statements = fed (statement_lines edition10 f.variables f.lines)

  clean_text_lem : clean_text f ≡ version ++ expectation ++ declarations ++ statements
  unfolding clean_text later_lines
  clean_text_lem = simp (fed_append, append_assoc) (ap (λ ls. version ++ (expectation ++ (declarations ++ fed ls))) (any_edition (edition_of f) f.variables f.lines))

  pub clean_length : length (clean_text f) ≡ length version + length expectation + length declarations + length statements
  clean_length = ap length clean_text_lem ∙ simp length-append (omega arith)

  pub put_clean : {room : List ℕ} → length (clean_text f) ≤ length room
      → {end₁ end₂ end₃ end₄ : ℕ} {room₁ room₂ room₃ room₄ : List ℕ}
      → Put version room 0 end₁ room₁ → Put expectation room₁ end₁ end₂ room₂ → Put declarations room₂ end₂ end₃ room₃ → Put statements room₃ end₃ end₄ room₄
      → Put (clean_text f) room 0 end₄ room₄
  put_clean h p q r s =
      let n = clean_length in
      rw clean_text_lem (put_then (simp length-append (omega arith)) (put_then (simp length-append (omega arith)) (put_then (simp length-append (omega arith)) p q) r) s)
