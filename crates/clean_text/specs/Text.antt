-- The clean text of a file.
use Rattle.std.specs.Prelude.{ℕ}
use mathlib.Core.List.{List, [], ◌∷◌, ◌++◌, map, flat_map}
use Rattle.std.specs.Prelude.{Option, None, Some}
use Rattle.edition.specs.declared.Edition.{Edition}
use Rattle.refusal.specs.SubjectWords.{ascii}
use Rattle.arithmetic.specs.declared.Word.{Word}
use Rattle.spelling.specs.Operators.{spelling_of}
use Rattle.constraint.specs.declared.Operand.{Operand}
use Rattle.constraint.specs.declared.Operand.TheVariants.{Absent, Var, Const}
use Rattle.constraint.specs.declared.Operands.{Operands}
use Rattle.constraint.specs.declared.Line.{Line}
use Rattle.constraint.specs.File.{Variable, File, edition_of, name_at}
use Rattle.printing.specs.Digits.{digits}

-- TOKENS: "constants reduced, no leading zeros"

-- a version, `MAJOR.MINOR`
unfoldable pub version_text : Edition → List ℕ
version_text e = digits e.major ++ ascii "." ++ digits e.minor

-- a type behind its colon, `:iK`
unfoldable pub type_text : ℕ → List ℕ
type_text k = ascii ":i" ++ digits k

-- a declaration, `name:iK`
unfoldable pub declaration_text : Variable → List ℕ
declaration_text x = x.name ++ type_text x.width

-- a constant, `digits:iK`; a file that was read has its constants reduced
unfoldable pub constant_text : Word → List ℕ
constant_text w = digits w.value ++ type_text w.width

-- the token of an output or an operand, if it is there: a variable's name, or a constant
unfoldable pub operand_tokens : List Variable → Operand → List (List ℕ)
operand_tokens xs Absent = []
operand_tokens xs (Var i) = name_at xs i ∷ []
operand_tokens xs (Const w) = constant_text w ∷ []

-- LINES: "One space between tokens"

-- tokens, each behind a space
unfoldable pub spaced : List (List ℕ) → List ℕ
spaced = flat_map (λ t. ascii " " ++ t)

-- a line of a letter and its tokens
unfoldable pub line_text : List ℕ → List (List ℕ) → List ℕ
line_text letter tokens = letter ++ spaced tokens

-- "`v 1.0`"
unfoldable pub version_line : Edition → List ℕ
version_line e = line_text (ascii "v") (version_text e ∷ [])

-- "the `e` line if there was one"
unfoldable pub expectation_lines : Option ℕ → List (List ℕ)
expectation_lines None = []
expectation_lines (Some n) = line_text (ascii "e") (digits n ∷ []) ∷ []

-- "one `d` line with all variables in order, if any"
unfoldable pub declaration_lines : List Variable → List (List ℕ)
declaration_lines [] = []
declaration_lines (x ∷ xs) = line_text (ascii "d") (map declaration_text (x ∷ xs)) ∷ []

-- the letter of a line: one with an output is a `c` line
unfoldable pub statement_letter : Operand → List ℕ
statement_letter Absent = ascii "p"
statement_letter (Var i) = ascii "c"
statement_letter (Const w) = ascii "c"

-- operands from left to right
unfoldable pub operands_tokens : List Variable → Operands → List (List ℕ)
operands_tokens xs os = operand_tokens xs os.first ++ operand_tokens xs os.second ++ operand_tokens xs os.third

-- the output if there is one, the operator, its operands
unfoldable pub statement_tokens : Edition → List Variable → Line → List (List ℕ)
statement_tokens e xs l = operand_tokens xs l.output ++ (spelling_of e l.operator ∷ operands_tokens xs l.operands)

unfoldable pub statement_line : Edition → List Variable → Line → List ℕ
statement_line e xs l = line_text (statement_letter l.output) (statement_tokens e xs l)

-- "the `c` and `p` lines in order"
unfoldable pub statement_lines : Edition → List Variable → List Line → List (List ℕ)
statement_lines e xs = map (statement_line e xs)

-- THE FILE: "one LF between lines, none at the end"

-- the lines behind the first
unfoldable pub later_lines : File → List (List ℕ)
later_lines f = expectation_lines f.expectation ++ declaration_lines f.variables ++ statement_lines (edition_of f) f.variables f.lines

-- lines, each behind an LF
unfoldable pub fed : List (List ℕ) → List ℕ
fed = flat_map (λ l. ascii "\n" ++ l)

-- the whole text: the `v` line, and each other line behind an LF
unfoldable pub clean_text : File → List ℕ
clean_text f = version_line (edition_of f) ++ fed (later_lines f)
