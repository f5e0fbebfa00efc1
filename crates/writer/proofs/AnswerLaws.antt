-- The text of an answer: its lines put one behind another, and their lengths. Assumes nothing.
use mathlib.Core.Path.{◌≡◌, refl, sym, ap, ◌∙◌}
use mathlib.Core.List.{List, [], ◌∷◌, ◌++◌}
use Prim.Native.Nat.{ℕ, ◌+◌, ◌≤◌, ◌<◌}
use native.Mathlib.Omega.{arith}
use lib.ListN.{length, length-append}
use Rattle.refusal.specs.SubjectWords.{ascii}
use Rattle.constraint.specs.File.{Variable}
use Rattle.store.specs.Tables.{tabulate, variables_in}
use Rattle.store.proofs.LookupLaws.{variables_length}
use Rattle.answer.specs.SolutionWords.{satisfiable}
use Rattle.writer.specs.Text.{settings_text, values_line, answer_text}
use Rattle.printing.specs.Room.{Put}
use Rattle.printing.proofs.PlaceLaws.{put_none, put_then}

-- the line of values of one variable or more
line_some : (xs : List Variable) (row : List ℕ) → 0 < length xs → values_line xs row ≡ ascii "v" ++ settings_text xs row ++ ascii "\n"
unfolding values_line
line_some [] row h = let z : ⊥ = omega arith in absurd z
line_some (x ∷ xs) row h = refl

module _ (file table : List ℕ) (n : ℕ) (row : List ℕ) where
  -- the variables in their tables
  abbrev xs : List Variable
  xs = variables_in file table n

  -- ---- the answer, and its lines
  pub answer_length : length (answer_text xs row) ≡ 14 + length (values_line xs row)
  unfolding answer_text
  answer_length = omega arith

  pub put_answer : {room : List ℕ} → length (answer_text xs row) ≤ length room
      → {end₁ end₂ end₃ end₄ : ℕ} {room₁ room₂ room₃ room₄ : List ℕ}
      → Put (ascii "s ") room 0 end₁ room₁ → Put satisfiable room₁ end₁ end₂ room₂ → Put (ascii "\n") room₂ end₂ end₃ room₃ → Put (values_line xs row) room₃ end₃ end₄ room₄
      → Put (answer_text xs row) room 0 end₄ room₄
  unfolding answer_text
  put_answer h p q r s = put_then (omega arith) (put_then (omega arith) (put_then (omega arith) p q) r) s

  -- ---- no variables: no line of values
  module _ (e : n ≡ 0) where
    values_none : values_line xs row ≡ []
    unfolding values_line variables_in tabulate
    values_none = rw e

    pub put_no_values : (room : List ℕ) (at : ℕ) → Put (values_line xs row) room at at room
    put_no_values room at = rw values_none (put_none room at)

    pub answer_alone : 14 ≡ length (answer_text xs row)
    answer_alone = sym (answer_length ∙ rw values_none)

  -- ---- variables, and a line of values
  module _ (h : ¬ (n ≡ 0)) where
    values_some : values_line xs row ≡ ascii "v" ++ settings_text xs row ++ ascii "\n"
    values_some = line_some xs row (omega (arith, variables_length file table n))

    pub values_length : length (values_line xs row) ≡ 2 + length (settings_text xs row)
    values_length = ap length values_some ∙ omega (arith, length-append (settings_text xs row) (ascii "\n"))

    pub answer_more : {len : ℕ} → len ≡ length (settings_text xs row) → 16 + len ≡ length (answer_text xs row)
    answer_more e = omega (arith, answer_length, values_length)

    pub put_values : {room : List ℕ} {at : ℕ} → at + length (values_line xs row) ≤ length room
        → {end₁ end₂ end₃ : ℕ} {room₁ room₂ room₃ : List ℕ}
        → Put (ascii "v") room at end₁ room₁ → Put (settings_text xs row) room₁ end₁ end₂ room₂ → Put (ascii "\n") room₂ end₂ end₃ room₃
        → Put (values_line xs row) room at end₃ room₃
    put_values k p q r = rw values_some (put_then (rw values_some at k) (put_then (omega (arith, values_length)) p q) r)
