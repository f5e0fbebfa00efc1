-- What a constraint file says, in plain terms. Nothing here goes by the steps of the reader, and no position matters.
use Rattle.std.specs.Prelude.{ℕ, ◌%◌, ◌^◌, ◌≤◌, ◌<◌, ◌≡◌, Bool, true, false, cond, ◌||◌, eqb, length, get_or}
use Prim.Native.Char.{code}
use Prim.Native.String.{String}
use mathlib.Core.List.{List, [], ◌∷◌, ◌++◌, map, flat_map}
use Rattle.std.specs.Prelude.{Option, None, Some}
use Rattle.edition.specs.declared.Edition.{Edition}
use Rattle.edition.specs.Edition.{edition_numbered, max_file_bytes, max_variables, max_lines}
use Rattle.refusal.specs.Lists.{every}
use Rattle.refusal.specs.SubjectWords.{ascii}
use Rattle.arithmetic.specs.declared.Operator.{Operator}
use Rattle.arithmetic.specs.declared.Word.{Word}
use Rattle.arithmetic.specs.Rules.{arity}
use Rattle.text.specs.Bytes.{is_space, is_allowed}
use Rattle.text.specs.Lines.{TextLine, text_lines, arguments, leads}
use Rattle.text.specs.Spelling.{is_numeral, decimal, max_digits, number_bound, leading_zero, max_width_digits}
use Rattle.spelling.specs.Operators.{spellings}
use Rattle.constraint.specs.declared.Operand.{Operand}
use Rattle.constraint.specs.declared.Operand.TheVariants.{Absent, Var, Const}
use Rattle.constraint.specs.declared.Line.{Line}
use Rattle.constraint.specs.File.{Variable, File, edition_of, name_at}
use Rattle.constraint.specs.TypeRules.{well_typed}
use Rattle.constraint.specs.Read.{max_version_digits}
use Rattle.constraint.specs.Sound.{Each, SoundVariable, Distinct}
use Rattle.arithmetic.specs.Evaluable.{IsWidth}

-- TOKENS, by their bytes alone

-- a version: "1 to 4 digits, a dot, 1 to 4 digits", with the numbers of an edition that there is
pub record SpellsVersion (token : List ℕ) (e : Edition) : Type 0 where
  pub major : List ℕ
  pub minor : List ℕ
  pub spelt : token ≡ major ++ ascii "." ++ minor
  pub major_digits : is_numeral max_version_digits major ≡ true
  pub minor_digits : is_numeral max_version_digits minor ≡ true
  pub known : edition_numbered (decimal major) (decimal minor) ≡ Some e

-- the K of a type: "one or two digits, no leading zero before another digit", and 1 to 64
pub record SpellsWidth (digits : List ℕ) (k : ℕ) : Type 0 where
  pub numeral : is_numeral max_width_digits digits ≡ true
  pub no_zero : leading_zero digits ≡ false
  pub makes : decimal digits ≡ k
  pub width : IsWidth k

-- a declaration: a name, `:i`, K
pub record SpellsVariable (token : List ℕ) (x : Variable) : Type 0 where
  pub width_digits : List ℕ
  pub spelt : token ≡ x.name ++ ascii ":i" ++ width_digits
  pub width : SpellsWidth width_digits x.width

-- a constant: "1 to 20 digits, `:i`, K", "an unsigned number below 2^64 and reduced modulo 2^K"
pub record SpellsConstant (token : List ℕ) (c : Word) : Type 0 where
  pub value_digits : List ℕ
  pub width_digits : List ℕ
  pub spelt : token ≡ value_digits ++ ascii ":i" ++ width_digits
  pub numeral : is_numeral max_digits value_digits ≡ true
  pub width : SpellsWidth width_digits c.width
  pub below : decimal value_digits < number_bound
  pub value : c.value ≡ decimal value_digits % 2 ^ c.width

-- an output or an operand: the name of a declared variable, or a constant. No token spells an operand that is absent
abbrev pub SpellsOperand : List Variable → List ℕ → Operand → Type 0
SpellsOperand xs token Absent = ⊥
SpellsOperand xs token (Var i) = (i < length xs) × (token ≡ name_at xs i)
SpellsOperand xs token (Const c) = SpellsConstant token c

-- an operator: the table of spellings has it under the token
pub record SpellsOperator (e : Edition) (token : List ℕ) (op : Operator) : Type 0 where
  pub text : String
  pub earlier : List (String × Operator)
  pub later : List (String × Operator)
  pub in_table : spellings e ≡ earlier ++ (text, op) ∷ later
  pub spelt : token ≡ ascii text

-- tokens that spell operands in order; an operand that has no token is absent
abbrev pub SpellsOperands : List Variable → List (List ℕ) → List Operand → Type 0
SpellsOperands xs [] [] = Unit {0}
SpellsOperands xs [] (o ∷ os) = (o ≡ Absent) × SpellsOperands xs [] os
SpellsOperands xs (token ∷ tokens) [] = ⊥
SpellsOperands xs (token ∷ tokens) (o ∷ os) = SpellsOperand xs token o × SpellsOperands xs tokens os

-- LINES

-- a line that is not skipped: the letter that it starts with, and the tokens behind it
pub record Said : Type 0 where
  pub letter : ℕ
  pub tokens : List (List ℕ)

-- the letter that a line starts with, "at its first byte", "then white space or the line's end"; 0 where it is none of the five
unfoldable pub leading_letter : List ℕ → ℕ
leading_letter s =
    cond (leads (code "v") s) (code "v")
    (cond (leads (code "e") s) (code "e")
    (cond (leads (code "d") s) (code "d")
    (cond (leads (code "c") s) (code "c")
    (cond (leads (code "p") s) (code "p")
    0))))

-- a blank line, or a line "whose first byte is `#`"
unfoldable pub is_skipped : List ℕ → Bool
is_skipped s = every is_space s || eqb (get_or s 0 0) (code "#")

-- the tokens behind a line's letter
unfoldable pub tokens_behind : TextLine → List (List ℕ)
tokens_behind l = map (λ t. t.bytes) (arguments l)

-- what a line says: nothing, if it is skipped
unfoldable pub said_by : TextLine → List Said
said_by l = cond (is_skipped l.bytes) [] (record { letter = leading_letter l.bytes; tokens = tokens_behind l } ∷ [])

-- the lines of a file, without those that are skipped
unfoldable pub said : List ℕ → List Said
said bytes = flat_map said_by (text_lines bytes)

-- of the lines with a letter: the tokens of each, and all their tokens in order
unfoldable pub lines_with : ℕ → List Said → List (List (List ℕ))
lines_with letter = flat_map (λ s. cond (eqb s.letter letter) (s.tokens ∷ []) [])

unfoldable pub tokens_with : ℕ → List Said → List (List ℕ)
tokens_with letter = flat_map (λ s. cond (eqb s.letter letter) s.tokens [])

-- THE HEADER

-- a `v`, `e` or `d` line
unfoldable pub is_header : Said → Bool
is_header s = eqb s.letter (code "v") || eqb s.letter (code "e") || eqb s.letter (code "d")

-- "Exactly one `v`", of one token, which is the version
pub record SaysVersion (vs : List (List (List ℕ))) (version : Option Edition) : Type 0 where
  pub token : List ℕ
  pub edition : Edition
  pub one : vs ≡ (token ∷ []) ∷ []
  pub spelt : SpellsVersion token edition
  pub says_edition : version ≡ Some edition

-- "at most one `e`", of one token, which "takes `0` or `1`"
pub data SaysExpectation (es : List (List (List ℕ))) (expectation : Option ℕ) : Type 0 where
  no_line : es ≡ [] → expectation ≡ None → SaysExpectation es expectation
  says_0 : es ≡ (ascii "0" ∷ []) ∷ [] → expectation ≡ Some 0 → SaysExpectation es expectation
  says_1 : es ≡ (ascii "1" ∷ []) ∷ [] → expectation ≡ Some 1 → SaysExpectation es expectation

-- THE LINES `c` AND `p`

-- an operator by its spelling, its operands, no more tokens; and the line keeps the type rules
pub record SpellsOperation (e : Edition) (xs : List Variable) (tokens : List (List ℕ)) (l : Line) : Type 0 where
  pub operator_token : List ℕ
  pub operand_tokens : List (List ℕ)
  pub are : tokens ≡ operator_token ∷ operand_tokens
  pub operator_spelt : SpellsOperator e operator_token l.operator
  pub count : length operand_tokens ≡ arity l.operator
  pub operands_spelt : SpellsOperands xs operand_tokens (l.operands.first ∷ l.operands.second ∷ l.operands.third ∷ [])
  pub type_rules : well_typed xs l ≡ true

-- "`c` takes an output (variable or constant), an operator, its operands; `p` an operator and its operands"
pub data SpellsLine (e : Edition) (xs : List Variable) (s : Said) (l : Line) : Type 0 where
  with_output : (output : List ℕ) (others : List (List ℕ)) → s.letter ≡ code "c" → s.tokens ≡ output ∷ others → SpellsOperand xs output l.output → SpellsOperation e xs others l → SpellsLine e xs s l
  predicate : s.letter ≡ code "p" → l.output ≡ Absent → SpellsOperation e xs s.tokens l → SpellsLine e xs s l

-- THE FILE

-- the elements of two lists, each with its fellow of the other, and none without
abbrev pub Pairwise : {A B : Type 0} → (A → B → Type 0) → List A → List B → Type 0
Pairwise R [] [] = Unit {0}
Pairwise R [] (y ∷ ys) = ⊥
Pairwise R (x ∷ xs) [] = ⊥
Pairwise R (x ∷ xs) (y ∷ ys) = R x y × Pairwise R xs ys

-- a file's bytes say f
pub record Says (bytes : List ℕ) (f : File) : Type 0 where
  -- "65,536 bytes", and in every line only bytes that are "allowed anywhere"
  pub short : length bytes ≤ max_file_bytes
  pub allowed : Each (λ l. every is_allowed l.bytes ≡ true) (text_lines bytes)
  -- its lines are a header, then the others: "all before the first `c` or `p`"
  pub header : List Said
  pub others : List Said
  pub in_order : said bytes ≡ header ++ others
  -- the header: `v`, `e` and `d` lines, "in any order"
  pub header_letters : every is_header header ≡ true
  pub version : SaysVersion (lines_with (code "v") header) f.version
  pub expectation : SaysExpectation (lines_with (code "e") header) f.expectation
  -- "`d` takes one or more `name:iK`", and all together spell the variables
  pub some_declared : Each (λ tokens. 1 ≤ length tokens) (lines_with (code "d") header)
  pub declared : Pairwise SpellsVariable (tokens_with (code "d") header) f.variables
  -- names are names, of 1 to 32 bytes, not reserved, pairwise different; "256 variables"
  pub variables : Each (SoundVariable (edition_of f)) f.variables
  pub distinct : Distinct f.variables
  pub few_variables : length f.variables ≤ max_variables
  -- the others: `c` and `p` lines, each of which spells its line of f; "1,024 lines of kind `c` or `p`"
  pub spelt : Pairwise (SpellsLine (edition_of f) f.variables) others f.lines
  pub few_lines : length f.lines ≤ max_lines
