-- Lines: their lengths, and their pieces put one behind another. Assumes nothing.
use Prim.Native.Nat.{ℕ, ◌+◌, ◌≤◌}
use mathlib.Core.Path.{◌≡◌, refl, sym, ap, ◌∙◌}
use mathlib.Core.Bool.{Bool, true, false, cond}
use mathlib.Core.List.{List, [], ◌∷◌, ◌++◌, map, flat_map, append_assoc}
use Rattle.std.specs.Prelude.{None, Some}
use native.Mathlib.Omega.{arith}
use lib.Dec.{ltb}
use lib.ListN.{length, get_or, length-append}
use borrow.Author.Tests.{eq-eqb, ne_eqb}
use Rattle.edition.specs.declared.Edition.{Edition}
use Rattle.refusal.specs.SubjectWords.{ascii}
use Rattle.arithmetic.specs.declared.Word.{Word}
use Rattle.spelling.specs.Operators.{spelling_of}
use Rattle.constraint.specs.declared.Operand.TheVariants.{Var, Const}
use Rattle.constraint.specs.declared.Line.{Line}
use Rattle.constraint.specs.File.{Variable}
use Rattle.store.specs.Tables.{variable_mark, variable_of, variable_in, variables_in, head_at, body_at, operand_of, operand_in, operator_in, line_in, lines_in}
use Rattle.printing.specs.Digits.{digits}
use Rattle.printing.specs.Room.{Put}
use Rattle.printing.proofs.PlaceLaws.{put_none, put_then}
use Rattle.printing.proofs.RowLaws.{first_texts}
use Rattle.clean_text.specs.Text.{version_text, declaration_text, operand_tokens, spaced, line_text, version_line, expectation_lines, declaration_lines, statement_letter, operands_tokens, statement_tokens, statement_line, statement_lines, fed}
use Rattle.clean.specs.Front.{front_text}
use Rattle.clean.proofs.JoinedLaws.{spaced_append, spaced_one, spaced_table, fed_one, fed_table}

-- ---- the `v` line
module _ (e : Edition) where
  version_text_lem : version_line e ≡ ascii "v " ++ digits e.major ++ ascii "." ++ digits e.minor
  unfolding version_line line_text version_text
  version_text_lem = ap (λ s. ascii "v" ++ s) (spaced_one (digits e.major ++ ascii "." ++ digits e.minor))

  pub version_length : length (version_line e) ≡ 3 + length (digits e.major) + length (digits e.minor)
  version_length = ap length version_text_lem ∙ simp length-append (omega arith)

  pub put_version : {room : List ℕ} {at : ℕ} → at + length (version_line e) ≤ length room
      → {end₁ end₂ end₃ end₄ : ℕ} {room₁ room₂ room₃ room₄ : List ℕ}
      → Put (ascii "v ") room at end₁ room₁ → Put (digits e.major) room₁ end₁ end₂ room₂ → Put (ascii ".") room₂ end₂ end₃ room₃ → Put (digits e.minor) room₃ end₃ end₄ room₄
      → Put (version_line e) room at end₄ room₄
  put_version h p q r s =
      let l = version_length in
      rw version_text_lem (put_then (rw version_text_lem at h) (put_then (simp length-append (omega arith)) (put_then (simp length-append (omega arith)) p q) r) s)

-- ---- the `e` line
pub put_no_expectation : (room : List ℕ) (at : ℕ) → Put (fed (expectation_lines None)) room at at room
unfolding expectation_lines fed flat_map
put_no_expectation room at = put_none room at

module _ (n : ℕ) where
  expectation_text : fed (expectation_lines (Some n)) ≡ ascii "\ne " ++ digits n
  unfolding expectation_lines line_text
  expectation_text = fed_one (ascii "e" ++ spaced (digits n ∷ [])) ∙ ap (λ s. ascii "\ne" ++ s) (spaced_one (digits n))

  pub expectation_length : length (fed (expectation_lines (Some n))) ≡ 3 + length (digits n)
  expectation_length = ap length expectation_text ∙ omega arith

  pub put_expectation : {room : List ℕ} {at : ℕ} → at + length (fed (expectation_lines (Some n))) ≤ length room
      → {end end' : ℕ} {room' room'' : List ℕ} → Put (ascii "\ne ") room at end room' → Put (digits n) room' end end' room'' → Put (fed (expectation_lines (Some n))) room at end' room''
  put_expectation h p q = rw expectation_text (put_then (rw expectation_text at h) p q)

-- ---- the `d` line
pub put_no_declarations : (xs : List Variable) → length xs ≡ 0 → (room : List ℕ) (at : ℕ) → Put (fed (declaration_lines xs)) room at at room
unfolding declaration_lines fed flat_map
put_no_declarations [] e room at = put_none room at
put_no_declarations (x ∷ xs) e room at = let z : ⊥ = omega arith in absurd z

declarations_text : (xs : List Variable) → ¬ (length xs ≡ 0) → fed (declaration_lines xs) ≡ ascii "\nd" ++ spaced (map declaration_text xs)
unfolding declaration_lines line_text
declarations_text [] h = absurd (h refl)
declarations_text (x ∷ xs) h = fed_one (ascii "d" ++ spaced (map declaration_text (x ∷ xs)))

module _ (xs : List Variable) (h : ¬ (length xs ≡ 0)) where
  pub declarations_length : length (fed (declaration_lines xs)) ≡ 2 + length (spaced (map declaration_text xs))
  declarations_length = ap length (declarations_text xs h) ∙ omega arith

  pub put_declarations : {room : List ℕ} {at : ℕ} → at + length (fed (declaration_lines xs)) ≤ length room
      → {end end' : ℕ} {room' room'' : List ℕ} → Put (ascii "\nd") room at end room' → Put (spaced (map declaration_text xs)) room' end end' room'' → Put (fed (declaration_lines xs)) room at end' room''
  put_declarations r p q = let e = declarations_text xs h in rw e (put_then (rw e at r) p q)

-- ---- statements
pub letter_absent : (head body : ℕ) → head ≡ 0 → statement_letter (operand_of head body) ≡ ascii "p"
unfolding statement_letter operand_of
letter_absent head body e = rw (eq-eqb head 0 e)

operand_letter : (b : Bool) (w : Word) (i : ℕ) → statement_letter (cond b (Const w) (Var i)) ≡ ascii "c"
unfolding statement_letter
operand_letter true w i = refl
operand_letter false w i = refl

pub letter_there : (head body : ℕ) → ¬ (head ≡ 0) → statement_letter (operand_of head body) ≡ ascii "c"
unfolding operand_of
letter_there head body h = rw (ne_eqb head 0 h) (operand_letter (ltb head variable_mark) _ body)

-- the front of a line, and its operands behind it
module _ (e : Edition) (xs : List Variable) (l : Line) where
  abbrev operands : List ℕ
  operands = spaced (operands_tokens xs l.operands)

  statement_text : ascii "\n" ++ statement_line e xs l ≡ ascii "\n" ++ front_text e xs l ++ operands
  unfolding statement_line statement_tokens line_text front_text
  statement_text =
      let output = operand_tokens xs l.output in
      let operator = spelling_of e l.operator ∷ [] in
      let front = statement_letter l.output in
      ap (λ s. ascii "\n" ++ (front ++ s)) (ap spaced (sym (append_assoc output operator (operands_tokens xs l.operands))) ∙ spaced_append (output ++ operator) (operands_tokens xs l.operands))
      ∙ ap (λ s. ascii "\n" ++ s) (sym (append_assoc front (spaced (output ++ operator)) operands))

  pub statement_length : length (ascii "\n" ++ statement_line e xs l) ≡ length (ascii "\n" ++ front_text e xs l) + length operands
  statement_length = ap length statement_text ∙ length-append (ascii "\n" ++ front_text e xs l) operands

  pub put_statement : {room : List ℕ} {at : ℕ} → at + length (ascii "\n" ++ statement_line e xs l) ≤ length room
      → {end end' : ℕ} {room' room'' : List ℕ} → Put (ascii "\n" ++ front_text e xs l) room at end room' → Put operands room' end end' room'' → Put (ascii "\n" ++ statement_line e xs l) room at end' room''
  put_statement h p q = rw statement_text (put_then (omega (arith, statement_length, length-append (ascii "\n" ++ front_text e xs l) operands)) p q)

-- ---- the declarations and the lines of the tables
module _ (file table : List ℕ) where
  abbrev pub declaration_at : ℕ → List ℕ
  declaration_at i = ascii " " ++ declaration_text (variable_of file (get_or table i 0))

  pub declarations_are : (n : ℕ) → spaced (map declaration_text (variables_in file table n)) ≡ first_texts declaration_at n
  unfolding variables_in variable_in
  declarations_are n = spaced_table declaration_text (variable_in file table) n

module _ (e : Edition) (xs : List Variable) (heads bodies : List ℕ) where
  abbrev pub statement_at : ℕ → List ℕ
  statement_at k = ascii "\n" ++ statement_line e xs (line_in heads bodies k)

  pub statements_are : (m : ℕ) → fed (statement_lines e xs (lines_in heads bodies m)) ≡ first_texts statement_at m
  unfolding lines_in statement_lines
  statements_are m = fed_table (statement_line e xs) (line_in heads bodies) m

  -- line k: what stands at its slots, and its operator
  module _ (k : ℕ) where
    abbrev slot_text : ℕ → List ℕ
    slot_text slot = spaced (operand_tokens xs (operand_in heads bodies k slot))

    abbrev operator_text : List ℕ
    operator_text = spaced (spelling_of e (operator_in heads k) ∷ [])

    abbrev front : List ℕ
    front = ascii "\n" ++ front_text e xs (line_in heads bodies k)

    abbrev operands_text : List ℕ
    operands_text = spaced (operands_tokens xs (line_in heads bodies k).operands)

    module _ {letter : ℕ} (is-letter : (body : ℕ) → statement_letter (operand_of (head_at heads k 0) body) ≡ letter ∷ []) where
      front_text_lem : front ≡ ascii "\n" ++ (letter ∷ []) ++ slot_text 0 ++ operator_text
      unfolding front_text line_text line_in operand_in
      front_text_lem = rw (is-letter (body_at bodies k 0), spaced_append) refl

      pub line_front_length : length front ≡ 2 + length (slot_text 0) + length operator_text
      line_front_length = ap length front_text_lem ∙ omega (arith, length-append (slot_text 0) operator_text)

      pub put_front : {room : List ℕ} {at : ℕ} → at + length front ≤ length room
          → {end₁ end₂ end₃ end₄ : ℕ} {room₁ room₂ room₃ room₄ : List ℕ}
          → Put (ascii "\n") room at end₁ room₁ → Put (letter ∷ []) room₁ end₁ end₂ room₂ → Put (slot_text 0) room₂ end₂ end₃ room₃ → Put operator_text room₃ end₃ end₄ room₄
          → Put front room at end₄ room₄
      put_front h p q r s =
          let n = line_front_length in
          rw front_text_lem (put_then (omega (arith, length-append (slot_text 0) operator_text)) (put_then (omega arith) (put_then (omega arith) p q) r) s)

    operands_text_lem : operands_text ≡ slot_text 1 ++ slot_text 2 ++ slot_text 3
    unfolding operands_tokens line_in
    operands_text_lem = rw (spaced_append, spaced_append) refl

    pub operands_length : length operands_text ≡ length (slot_text 1) + length (slot_text 2) + length (slot_text 3)
    operands_length = ap length operands_text_lem ∙ simp length-append (omega arith)

    pub put_operands : {room : List ℕ} {at : ℕ} → at + length operands_text ≤ length room
        → {end₁ end₂ end₃ : ℕ} {room₁ room₂ room₃ : List ℕ}
        → Put (slot_text 1) room at end₁ room₁ → Put (slot_text 2) room₁ end₁ end₂ room₂ → Put (slot_text 3) room₂ end₂ end₃ room₃
        → Put operands_text room at end₃ room₃
    put_operands h p q r = rw operands_text_lem (put_then (rw operands_text_lem at h) (put_then (simp length-append (omega (arith, operands_length))) p q) r)
