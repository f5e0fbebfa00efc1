-- The lines of a printed answer. Assumes nothing.
use Prim.Native.Nat.{ℕ, suc, ◌+◌}
use mathlib.Core.Path.{◌≡◌, refl, ap, ◌∙◌}
use mathlib.Core.List.{List, [], ◌∷◌, ◌++◌}
use lib.ListN.{length}
use Rattle.refusal.specs.Lists.{every}
use Rattle.refusal.specs.SubjectWords.{ascii}
use Rattle.text.specs.Bytes.{is_allowed}
use Rattle.text.specs.Lines.{TextLine, text_lines}
use Rattle.constraint.specs.File.{Variable}
use Rattle.answer.specs.SolutionWords.{satisfiable}
use Rattle.writer.specs.Text.{settings_text, values_line, answer_text}
use Rattle.text.proofs.AppendLaws.{lines_none, lines_front}
use Rattle.text.proofs.SeenLaws.{seen_allowed}
use Rattle.writer.proofs.PrintableLaws.{Printables, settings_every}

-- `s SATISFIABLE`
abbrev pub solution_line : TextLine
solution_line = record { start = 0; bytes = ascii "s " ++ satisfiable; next = 14 }

-- the line of the values, if there are variables
abbrev pub value_lines : List Variable → List ℕ → List TextLine
value_lines [] row = []
value_lines (x ∷ xs) row = record { start = 14; bytes = ascii "v" ++ settings_text (x ∷ xs) row; next = 14 + suc (suc (length (settings_text (x ∷ xs) row))) } ∷ []

-- the lines of the text
pub text_lines_lem : (xs : List Variable) (row : List ℕ) → Printables xs row → text_lines (answer_text xs row) ≡ solution_line ∷ value_lines xs row
unfolding answer_text values_line every is_allowed
text_lines_lem [] row g = lines_front (ascii "s " ++ satisfiable) [] 0 refl ∙ rw lines_none
text_lines_lem (x ∷ xs) row g =
    lines_front (ascii "s " ++ satisfiable) (values_line (x ∷ xs) row) 0 refl
    ∙ ap (λ (ls : List TextLine). solution_line ∷ ls) (lines_front (ascii "v" ++ settings_text (x ∷ xs) row) [] 14 (settings_every is_allowed refl seen_allowed (x ∷ xs) row g) ∙ rw lines_none)
