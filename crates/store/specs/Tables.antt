-- The tables that hold a file, and what they say.
use Rattle.std.specs.Prelude.{ℕ, zero, suc, ◌+◌, ◌*◌, ◌/◌, ◌%◌, ◌<◌, ◌≡◌, cond, List, [], ◌∷◌, ◌++◌, eqb, ltb, length, get_or, take, drop, set}
use Rattle.edition.specs.Edition.{max_variables, max_lines}
use Rattle.arithmetic.specs.declared.Operator.{Operator}
use Rattle.arithmetic.specs.Numbering.{operator_number, operator_numbered}
use Rattle.constraint.specs.declared.Operand.{Operand}
use Rattle.constraint.specs.declared.Operand.TheVariants.{Absent, Var, Const}
use Rattle.constraint.specs.declared.Line.{Line}
use Rattle.constraint.specs.File.{Variable}
use Rattle.constraint.specs.TypeRules.{rule_word}

-- the first n elements of a table whose element i is f i
unfoldable pub tabulate : {A : Type 0} → (ℕ → A) → ℕ → List A
tabulate f zero = []
tabulate f (suc n) = tabulate f n ++ (f n ∷ [])

-- VARIABLES: a word to each, made of where its name starts in the file, how long it is, the width, and two entries by which names are found

-- above every width: what a variable's head has beyond its width
abbrev pub variable_mark : ℕ
variable_mark = 128

-- the units in which a word counts the length, the width and the two entries
abbrev pub length_unit : ℕ
length_unit = 65536

abbrev pub width_unit : ℕ
width_unit = 16777216

abbrev pub next_unit : ℕ
next_unit = 4294967296

abbrev pub first_unit : ℕ
first_unit = 281474976710656

-- above every entry
abbrev pub entry_bound : ℕ
entry_bound = 65536

-- what a word is made of; a width read out of any word is below the mark
unfoldable pub name_start : ℕ → ℕ
name_start word = word % length_unit

unfoldable pub name_length : ℕ → ℕ
name_length word = word % width_unit / length_unit

unfoldable pub word_width : ℕ → ℕ
word_width word = word / width_unit % variable_mark

unfoldable pub next_entry : ℕ → ℕ
next_entry word = word / next_unit % entry_bound

unfoldable pub first_entry : ℕ → ℕ
first_entry word = word / first_unit

-- a word with another variable, and a word with another first entry
unfoldable pub with_word_of : ℕ → ℕ → ℕ → ℕ → ℕ → ℕ
with_word_of word start len width next = word / first_unit * first_unit + (start + len * length_unit + width * width_unit + next * next_unit)

unfoldable pub with_first_entry : ℕ → ℕ → ℕ
with_first_entry word entry = word % first_unit + entry * first_unit

-- the variable of a word
unfoldable pub variable_of : List ℕ → ℕ → Variable
variable_of file word = record { name = take (name_length word) (drop (name_start word) file); width = word_width word }

unfoldable pub variable_in : List ℕ → List ℕ → ℕ → Variable
variable_in file table i = variable_of file (get_or table i 0)

-- the first n variables
unfoldable pub variables_in : List ℕ → List ℕ → ℕ → List Variable
variables_in file table = tabulate (variable_in file table)

-- LINES, in two tables: of each line the operator's number and the heads of its output and its operands, and their bodies

abbrev pub line_heads : ℕ
line_heads = 5

abbrev pub line_bodies : ℕ
line_bodies = 4

abbrev pub table_heads : ℕ
table_heads = max_lines * line_heads

abbrev pub table_bodies : ℕ
table_bodies = max_lines * line_bodies

-- an operand's head and body: 0 where there is none; a constant's width, and its value; a variable's width with the mark, and its number
unfoldable pub operand_of : ℕ → ℕ → Operand
operand_of head body = cond (eqb head 0) Absent (cond (ltb head variable_mark) (Const (record { width = head; value = body })) (Var body))

-- the width in a head
unfoldable pub head_width : ℕ → ℕ
head_width head = head % variable_mark

-- a head has the width of its operand, a variable or a constant
abbrev pub HeadFits : List Variable → ℕ → ℕ → Type 0
HeadFits xs head body = (rule_word xs (operand_of head body)).width ≡ head_width head

-- the head and the body at a slot of line n: 0 is the output's, 1 to 3 are the operands'
unfoldable pub head_at : List ℕ → ℕ → ℕ → ℕ
head_at heads n slot = get_or heads (n * line_heads + 1 + slot) 0

unfoldable pub body_at : List ℕ → ℕ → ℕ → ℕ
body_at bodies n slot = get_or bodies (n * line_bodies + slot) 0

unfoldable pub operand_in : List ℕ → List ℕ → ℕ → ℕ → Operand
operand_in heads bodies n slot = operand_of (head_at heads n slot) (body_at bodies n slot)

unfoldable pub operator_in : List ℕ → ℕ → Operator
operator_in heads n = operator_numbered (get_or heads (n * line_heads) 0)

unfoldable pub line_in : List ℕ → List ℕ → ℕ → Line
line_in heads bodies n = record {
  output = operand_in heads bodies n 0;
  operator = operator_in heads n;
  operands = record { first = operand_in heads bodies n 1; second = operand_in heads bodies n 2; third = operand_in heads bodies n 3 };
}

-- the first n lines
unfoldable pub lines_in : List ℕ → List ℕ → ℕ → List Line
lines_in heads bodies = tabulate (line_in heads bodies)

-- the tables with one part of line n put in
unfoldable pub with_operator : List ℕ → ℕ → Operator → List ℕ
with_operator heads n op = set heads (n * line_heads) (operator_number op)

unfoldable pub with_head : List ℕ → ℕ → ℕ → ℕ → List ℕ
with_head heads n slot head = set heads (n * line_heads + 1 + slot) head

unfoldable pub with_body : List ℕ → ℕ → ℕ → ℕ → List ℕ
with_body bodies n slot body = set bodies (n * line_bodies + slot) body

-- line n without output and operands
unfoldable pub without_operands : List ℕ → ℕ → List ℕ
without_operands heads n = with_head (with_head (with_head (with_head heads n 0 0) n 1 0) n 2 0) n 3 0

-- a line with an operand at a slot
unfoldable pub with_operand : Line → ℕ → Operand → Line
with_operand l zero o = record { output = o; operator = l.operator; operands = l.operands }
with_operand l (suc zero) o = record { output = l.output; operator = l.operator; operands = record { first = o; second = l.operands.second; third = l.operands.third } }
with_operand l (suc (suc zero)) o = record { output = l.output; operator = l.operator; operands = record { first = l.operands.first; second = o; third = l.operands.third } }
with_operand l (suc (suc (suc k))) o = record { output = l.output; operator = l.operator; operands = record { first = l.operands.first; second = l.operands.second; third = o } }

-- the lines before line n are as they were
pub record LinesKept (hs bs hs₂ bs₂ : List ℕ) (n : ℕ) : Type 0 where
  pub heads : (j : ℕ) → j < n * line_heads → get_or hs₂ j 0 ≡ get_or hs j 0
  pub bodies : (j : ℕ) → j < n * line_bodies → get_or bs₂ j 0 ≡ get_or bs j 0

-- the heads of line n have the widths of its operands, of variables and constants
abbrev pub HeadsFit : List Variable → List ℕ → List ℕ → ℕ → Type 0
HeadsFit xs heads bodies n = (slot : ℕ) → slot < line_bodies → (rule_word xs (operand_in heads bodies n slot)).width ≡ head_width (head_at heads n slot)

-- those of the first n lines do
abbrev pub AllHeadsFit : List Variable → List ℕ → List ℕ → ℕ → Type 0
AllHeadsFit xs heads bodies n = (k : ℕ) → k < n → HeadsFit xs heads bodies k

-- ALL OF THEM
pub record Store : Type 0 where
  pub variables : List ℕ
  pub heads : List ℕ
  pub bodies : List ℕ

abbrev pub store_of : List ℕ → List ℕ → List ℕ → Store
store_of variables heads bodies = record { variables = variables; heads = heads; bodies = bodies }

-- as long as they should be
pub record StoreSized (t : Store) : Type 0 where
  pub variables : length t.variables ≡ max_variables
  pub heads : length t.heads ≡ table_heads
  pub bodies : length t.bodies ≡ table_bodies
