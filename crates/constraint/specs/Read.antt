-- Reading a constraint file. Refusals are found from top to bottom.
use Rattle.std.specs.Prelude.{ℕ, zero, suc, ◌%◌, ◌^◌, Bool, cond, not, ◌&&◌, List, [], ◌∷◌, eqb, ltb, leb, length, get_or}
use Prim.Native.Char.{code}
use Rattle.std.specs.Prelude.{Option, None, Some}
use Rattle.edition.specs.declared.Edition.{Edition}
use Rattle.edition.specs.Edition.{edition_numbered, max_variables, max_lines, max_name_bytes, is_width}
use Rattle.refusal.specs.declared.Refusal.{Refusal}
use Rattle.refusal.specs.declared.Fault.{Fault}
use Rattle.refusal.specs.declared.Subject.TheVariants.{Constraint}
use Rattle.refusal.specs.declared.Fault.TheVariants.{UnknownLine, MisplacedLine, WrongVersion, WrongExpectation, Misspelt, NotAWidth, NumberTooLarge, OverLimit, NameTaken, NotDeclared, UnknownOperator, TypeRuleBroken}
use Rattle.std.specs.Prelude.{is_some}
use Rattle.refusal.specs.Result.{Reply, Ok, Err, refusal, ensure, given, ◌>>=◌, ◌>>◌}
use Rattle.refusal.specs.SubjectWords.{ascii}
use Rattle.arithmetic.specs.Rules.{arity}
use Rattle.text.specs.Bytes.{same}
use Rattle.text.specs.Lines.{TextLine, Token, arguments, leads}
use Rattle.text.specs.Spelling.{is_name, is_numeral, decimal, max_digits, number_bound, is_type, type_width, up_to, behind}
use Rattle.text.specs.Reading.{at_token, at_line, next_token, no_more_tokens, read_text}
use Rattle.constraint.specs.declared.Operand.{Operand}
use Rattle.constraint.specs.declared.Operand.TheVariants.{Absent, Var, Const}
use Rattle.constraint.specs.declared.Operands.{Operands}
use Rattle.constraint.specs.declared.Line.{Line}
use Rattle.constraint.specs.declared.Kind.{Kind}
use Rattle.constraint.specs.declared.Kind.TheVariants.{Skipped, OfVersion, OfExpectation, OfDeclarations, OfStatement, OfNoKind}
use Rattle.constraint.specs.declared.Form.{Form}
use Rattle.constraint.specs.declared.Form.TheVariants.{WithOutput, Predicate}
use Rattle.constraint.specs.File.{Variable, File, empty_file, with_version, with_expectation, with_variable, with_line, edition_of, variable_named}
use Rattle.constraint.specs.TypeRules.{well_typed}
use Rattle.spelling.specs.Operators.{operator_named, is_reserved}

-- the refusal of a token, and of a line at its start
abbrev pub in_constraint : Token → Fault → Refusal
in_constraint = at_token Constraint

abbrev pub at_constraint_line : TextLine → Fault → Refusal
at_constraint_line = at_line Constraint

-- THE HEADER

-- `v`, `e` and `d` lines stand before the first `c` or `p`
unfoldable pub in_header : File → Bool
in_header f = eqb (length f.lines) 0

-- a line with one token, where such a line is allowed: `parse` says what the token means, `add` is the file with it
unfoldable pub read_single : {A : Type 0} → Bool → (List ℕ → Option A) → Fault → (A → File) → TextLine → Reply File
read_single allowed parse wrong add l = do
  ensure allowed (at_constraint_line l MisplacedLine)
  (t, ts) ← next_token Constraint l (arguments l)
  a ← given (parse t.bytes) (in_constraint t wrong)
  no_more_tokens Constraint ts
  Ok (add a)

-- the digits of a version's number, at most
abbrev pub max_version_digits : ℕ
max_version_digits = 4

-- the edition of a version token: "1 to 4 digits, a dot, 1 to 4 digits, with the numbers 1 and 0"
unfoldable pub version_of : List ℕ → Option Edition
version_of s =
    let major = up_to (code ".") s in
    let minor = behind (code ".") s in
    cond (is_numeral max_version_digits major && is_numeral max_version_digits minor) (edition_numbered (decimal major) (decimal minor)) None

-- "Exactly one `v`": a second is 4
unfoldable pub read_version : File → TextLine → Reply File
read_version f = read_single (in_header f && not (is_some f.version)) version_of WrongVersion (with_version f)

-- "`e` takes `0` or `1`"
unfoldable pub expectation_of : List ℕ → Option ℕ
expectation_of s = cond (same (ascii "0") s) (Some 0) (cond (same (ascii "1") s) (Some 1) None)

-- "at most one `e`": a second is 4
unfoldable pub read_expectation : File → TextLine → Reply File
read_expectation f = read_single (in_header f && not (is_some f.expectation)) expectation_of WrongExpectation (with_expectation f)

-- a declaration, `name:iK`: "in one token the smaller number"
unfoldable pub declare : Edition → List Variable → Token → Reply Variable
declare e xs t = do
  let name = up_to (code ":") t.bytes
  let type = behind (code ":") t.bytes
  ensure (is_name name && is_type type) (in_constraint t Misspelt)
  ensure (is_width (type_width type)) (in_constraint t NotAWidth)
  ensure (leb (length name) max_name_bytes && ltb (length xs) max_variables) (in_constraint t OverLimit)
  ensure (not (is_reserved e name) && not (is_some (variable_named name xs))) (in_constraint t NameTaken)
  Ok (record { name = name; width = type_width type })

-- declarations from left to right
unfoldable pub declare_all : File → List Token → Reply File
declare_all f [] = Ok f
declare_all f (t ∷ ts) = declare (edition_of f) f.variables t >>= λ x. declare_all (with_variable f x) ts

-- "`d` takes one or more"
unfoldable pub read_declarations : File → TextLine → Reply File
read_declarations f l = do
  ensure (in_header f) (at_constraint_line l MisplacedLine)
  (t, ts) ← next_token Constraint l (arguments l)
  declare_all f (t ∷ ts)

-- THE LINES

-- a variable used; a reserved name is never declared, so 13 as well
unfoldable pub read_variable : List Variable → Token → Reply Operand
read_variable xs t = do
  ensure (leb (length t.bytes) max_name_bytes) (in_constraint t OverLimit)
  i ← given (variable_named t.bytes xs) (in_constraint t NotDeclared)
  Ok (Var i)

-- a constant: "read as an unsigned number below 2^64 and reduced modulo 2^K"
unfoldable pub read_constant : Token → Reply Operand
read_constant t = do
  let number = up_to (code ":") t.bytes
  let type = behind (code ":") t.bytes
  ensure (is_numeral max_digits number && is_type type) (in_constraint t Misspelt)
  ensure (is_width (type_width type)) (in_constraint t NotAWidth)
  ensure (ltb (decimal number) number_bound) (in_constraint t NumberTooLarge)
  Ok (Const (record { width = type_width type; value = decimal number % 2 ^ type_width type }))

-- an operand, or the output of a `c` line: a token that is a name is a variable, any other a constant
unfoldable pub read_operand : List Variable → Token → Reply Operand
read_operand xs t = cond (is_name t.bytes) (read_variable xs t) (read_constant t)

-- the operand of the next token, and the tokens behind it
unfoldable pub next_operand : List Variable → TextLine → List Token → Reply (Operand × List Token)
next_operand xs l ts = do
  (t, ts) ← next_token Constraint l ts
  o ← read_operand xs t
  Ok (o, ts)

-- no operands, and one in front of others
abbrev pub no_operands : Operands
no_operands = record { first = Absent; second = Absent; third = Absent }

abbrev pub in_front : Operand → Operands → Operands
in_front o os = record { first = o; second = os.first; third = os.second }

-- the next n operands, and the tokens behind them
unfoldable pub read_operands : List Variable → TextLine → ℕ → List Token → Reply (Operands × List Token)
read_operands xs l zero ts = Ok (no_operands, ts)
read_operands xs l (suc n) ts = do
  (o, ts) ← next_operand xs l ts
  (os, ts) ← read_operands xs l n ts
  Ok (in_front o os, ts)

-- an operator, its operands and no more; "15 only if all tokens are sound"
unfoldable pub read_operation : File → TextLine → Operand → List Token → Reply Line
read_operation f l output ts = do
  (t, ts) ← next_token Constraint l ts
  op ← given (operator_named (edition_of f) t.bytes) (in_constraint t UnknownOperator)
  (os, ts) ← read_operands f.variables l (arity op) ts
  no_more_tokens Constraint ts
  let line : Line = record { output = output; operator = op; operands = os }
  ensure (well_typed f.variables line) (in_constraint t TypeRuleBroken)
  Ok line

-- the output of a line, and the tokens behind it; a `p` line has none
unfoldable pub next_output : Form → List Variable → TextLine → List Token → Reply (Operand × List Token)
next_output WithOutput xs l ts = next_operand xs l ts
next_output Predicate xs l ts = Ok (Absent, ts)

-- "`c` takes an output (variable or constant), an operator, its operands; `p` an operator and its operands"
unfoldable pub read_statement : Form → File → TextLine → Reply Line
read_statement form f l = do
  ensure (ltb (length f.lines) max_lines) (at_constraint_line l OverLimit)
  (output, ts) ← next_output form f.variables l (arguments l)
  read_operation f l output ts

-- the file with the line that was read
abbrev pub add_line : File → Reply Line → Reply File
add_line f (Ok line) = Ok (with_line f line)
add_line f (Err r) = Err r

-- THE FILE

-- the kind of a line that is not blank, "at its first byte"; lines whose first byte is `#` are skipped
unfoldable pub kind_of : List ℕ → Kind
kind_of s =
    cond (eqb (get_or s 0 0) (code "#")) Skipped
    (cond (leads (code "v") s) OfVersion
    (cond (leads (code "e") s) OfExpectation
    (cond (leads (code "d") s) OfDeclarations
    (cond (leads (code "c") s) (OfStatement WithOutput)
    (cond (leads (code "p") s) (OfStatement Predicate)
    OfNoKind)))))

-- a line of a kind
unfoldable pub read_as : Kind → File → TextLine → Reply File
read_as Skipped f l = Ok f
read_as OfVersion f l = read_version f l
read_as OfExpectation f l = read_expectation f l
read_as OfDeclarations f l = read_declarations f l
read_as (OfStatement form) f l = add_line f (read_statement form f l)
read_as OfNoKind f l = Err (at_constraint_line l UnknownLine)

unfoldable pub read_line : File → TextLine → Reply File
read_line f l = read_as (kind_of l.bytes) f l

-- "What is missing from the whole file comes last": a file without `v` is refused 4 at its length
unfoldable pub read_file : List ℕ → Reply File
read_file bytes = do
  f ← read_text Constraint read_line empty_file bytes
  ensure (is_some f.version) (refusal Constraint MisplacedLine (length bytes))
  Ok f
