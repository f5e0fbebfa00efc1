-- What the writer prints is an answer that sets the variables to the values. Assumes nothing.
use Prim.Native.Nat.{ℕ, ◌^◌, ◌≤◌, ◌<◌}
use Prim.Native.Char.{code}
use mathlib.Core.Path.{◌≡◌, refl, ◌∙◌}
use mathlib.Core.List.{List, [], ◌∷◌, map, flat_map, zip_with, append-nil}
use mathlib.Core.Bool.{true}
use native.Mathlib.Omega.{arith}
use lib.Dec.{eqb}
use lib.ListN.{length, get_or, replicate, length-append}
use Rattle.edition.specs.declared.Edition.{Edition}
use Rattle.edition.specs.Edition.{max_variables, max_file_bytes}
use Rattle.refusal.specs.Lists.{every}
use Rattle.refusal.proofs.BoolLaws.{and_one}
use Rattle.text.specs.Bytes.{front_of, is_space, is_allowed}
use Rattle.text.specs.Lines.{text_lines, token_of, tokens_from, leads}
use Rattle.constraint.specs.File.{Variable, name_at, width_at}
use Rattle.constraint.specs.Sound.{Each, SoundVariable, Distinct}
use Rattle.answer.specs.SolutionWords.{satisfiable}
use Rattle.answer.specs.Claims.{Sets, letter_of, letters, tokens_of, values_of}
use Rattle.writer.specs.Text.{settings_text, values_line, answer_text}
use Rattle.text.proofs.SeenLaws.{seen_allowed}
use Rattle.writer.proofs.PrintableLaws.{Printables, printables, settings_more, settings_every, settings_short}
use Rattle.writer.proofs.PrintedLines.{text_lines_lem}
use Rattle.constraint.proofs.SpacedLaws.{spaced_tokens}
use Rattle.writer.proofs.PrintedTokens.{setting_tokens, settings_tokens, tokens_set, values_one}

-- the text is short enough for a file
text_short : (xs : List Variable) (row : List ℕ) → length xs ≤ max_variables → Printables xs row → length (answer_text xs row) ≤ max_file_bytes
unfolding answer_text values_line
text_short [] row h g = omega arith
text_short (x ∷ xs) row h g = omega (arith, settings_short (x ∷ xs) row g, length-append (settings_text (x ∷ xs) row) (10 ∷ []))

-- its bytes are allowed
text_allowed : (xs : List Variable) (row : List ℕ) → Printables xs row → Each (λ l. every is_allowed l.bytes ≡ true) (text_lines (answer_text xs row))
unfolding every is_allowed
text_allowed [] row g = rw (text_lines_lem [] row g) (refl, tt)
text_allowed (x ∷ xs) row g = rw (text_lines_lem (x ∷ xs) row g) (refl, (settings_every is_allowed refl seen_allowed (x ∷ xs) row g, tt))

-- the line of the values is led by `v`, and by no other letter
leads_values : (b : ℕ) (x : Variable) (xs : List Variable) (v : ℕ) (row : List ℕ) → leads b (118 ∷ settings_text (x ∷ xs) (v ∷ row)) ≡ eqb b 118
unfolding leads is_space
leads_values b x xs v row = rw (settings_more x xs v row, and_one)

-- how many lines of values there are
abbrev values_lines : List Variable → ℕ
values_lines [] = 0
values_lines (x ∷ xs) = 1

-- its lines: `s`, and `v` where there are variables
text_letters : (xs : List Variable) (row : List ℕ) → Printables xs row → letters (answer_text xs row) ≡ code "s" ∷ replicate (values_lines xs) (code "v")
unfolding letters letter_of flat_map leads every is_space
text_letters [] row g = rw (text_lines_lem [] row g)
text_letters (x ∷ xs) [] g = absurd g
text_letters (x ∷ xs) (v ∷ row) g = rw (text_lines_lem (x ∷ xs) (v ∷ row) g, letter_of, leads_values 99 x xs v row, leads_values 118 x xs v row)

-- the token of its `s` line
text_word : (xs : List Variable) (row : List ℕ) → Printables xs row → map (λ t. t.bytes) (tokens_of (code "s") (answer_text xs row)) ≡ satisfiable ∷ []
unfolding tokens_of flat_map leads is_space tokens_from token_of front_of
text_word [] row g = rw (text_lines_lem [] row g)
text_word (x ∷ xs) [] g = absurd g
text_word (x ∷ xs) (v ∷ row) g = rw (text_lines_lem (x ∷ xs) (v ∷ row) g, leads_values 115 x xs v row)

-- the tokens of its `v` line
text_settings : (xs : List Variable) (row : List ℕ) → Printables xs row → tokens_of (code "v") (answer_text xs row) ≡ setting_tokens 15 xs row
unfolding tokens_of flat_map leads spaced_tokens zip_with
text_settings [] row g = rw (text_lines_lem [] row g)
text_settings (x ∷ xs) [] g = absurd g
text_settings (x ∷ xs) (v ∷ row) g = rw (text_lines_lem (x ∷ xs) (v ∷ row) g, leads_values 118 x xs v row) (append-nil (tokens_from true 15 (settings_text (x ∷ xs) (v ∷ row))) ∙ settings_tokens (x ∷ xs) (v ∷ row) 15 g)

-- every variable is set once, to its value
text_once : (xs : List Variable) (row : List ℕ) → Printables xs row → Distinct xs → (i : ℕ) → i < length xs → values_of (name_at xs i) (answer_text xs row) ≡ get_or row i 0 ∷ []
unfolding values_of
text_once xs row g d i h = rw (text_settings xs row g) (values_one xs row 15 i g d h)

-- what is printed is an answer that is accepted
pub text_sets : (e : Edition) (xs : List Variable) (row : List ℕ) → length xs ≤ max_variables → Each (SoundVariable e) xs → Distinct xs → length row ≡ length xs → ((i : ℕ) → i < length xs → get_or row i 0 < 2 ^ width_at xs i) → Sets xs (answer_text xs row) row
text_sets e xs row few sound distinct long fits =
    let g = printables e xs row sound long fits in
    record {
      short = text_short xs row few g;
      allowed = text_allowed xs row g;
      more = values_lines xs;
      in_order = text_letters xs row g;
      says_satisfiable = text_word xs row g;
      no_other = rw (text_settings xs row g) (tokens_set xs row 15 g);
      one_for_each = long;
      once = text_once xs row g distinct;
    }
