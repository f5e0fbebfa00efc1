-- A selection of lines: a Boolean for each line of a file, whether a change concerns it.
use Rattle.std.specs.Prelude.{ℕ, Bool, false, ◌||◌, List, map, eqb}
use Rattle.refusal.specs.Lists.{how_many}
use Rattle.constraint.specs.declared.Operand.{Operand}
use Rattle.constraint.specs.declared.Operand.TheVariants.{Absent, Var, Const}
use Rattle.constraint.specs.declared.Line.{Line}
use Rattle.constraint.specs.File.{File}

-- whether an operand is the variable i
unfoldable pub is_variable : ℕ → Operand → Bool
is_variable i Absent = false
is_variable i (Var j) = eqb i j
is_variable i (Const w) = false

-- whether a line names the variable i, "as output or operand"
unfoldable pub names : ℕ → Line → Bool
names i l = is_variable i l.output || is_variable i l.operands.first || is_variable i l.operands.second || is_variable i l.operands.third

-- the lines that name the variable i
unfoldable pub naming : File → ℕ → List Bool
naming f i = map (names i) f.lines

-- how many lines are selected: "a line counts once"
abbrev pub selected : List Bool → ℕ
selected = how_many (λ b. b)
