-- What is claimed of accepted files.
use Rattle.std.specs.Prelude.{ℕ, ◌≤◌, ◌<◌, ◌^◌, ◌≡◌, true, false, List, [], ◌∷◌, length}
use Rattle.edition.specs.declared.Edition.{Edition}
use Rattle.edition.specs.Edition.{max_variables, max_lines, max_name_bytes}
use Rattle.refusal.specs.Result.{Ok}
use Rattle.arithmetic.specs.Rules.{widths_hold}
use Rattle.arithmetic.specs.Evaluable.{IsWidth}
use Rattle.text.specs.Spelling.{is_name}
use Rattle.constraint.specs.declared.Operand.{Operand}
use Rattle.constraint.specs.declared.Operand.TheVariants.{Absent, Var, Const}
use Rattle.constraint.specs.declared.Line.{Line}
use Rattle.constraint.specs.File.{Variable, File, edition_of}
use Rattle.spelling.specs.Operators.{is_reserved}
use Rattle.constraint.specs.TypeRules.{rule_word, result_width, well_typed}
use Rattle.constraint.specs.Read.{read_file}

-- P holds of each element
abbrev pub Each : {A : Type 0} → (A → Type 0) → List A → Type 0
Each P [] = Unit {0}
Each P (x ∷ xs) = P x × Each P xs

-- an operand names a declared variable, or is a constant that fits its width
abbrev pub SoundOperand : List Variable → Operand → Type 0
SoundOperand xs Absent = Unit {0}
SoundOperand xs (Var i) = i < length xs
SoundOperand xs (Const w) = IsWidth w.width × (w.value < 2 ^ w.width)

-- a line meets the type rule; the operands that its operator takes are there, their widths and its result's are 1 to 64; all its operands are sound
pub record SoundLine (xs : List Variable) (l : Line) : Type 0 where
  pub type_rules : well_typed xs l ≡ true
  pub widths : widths_hold l.operator (result_width xs l.output) (rule_word xs l.operands.first) (rule_word xs l.operands.second) (rule_word xs l.operands.third) ≡ true
  pub output : SoundOperand xs l.output
  pub first : SoundOperand xs l.operands.first
  pub second : SoundOperand xs l.operands.second
  pub third : SoundOperand xs l.operands.third

-- a variable's name is spelt as a name, has 1 to 32 bytes and is not reserved, and its width is 1 to 64
pub record SoundVariable (e : Edition) (x : Variable) : Type 0 where
  pub spelt : is_name x.name ≡ true
  pub not_empty : 1 ≤ length x.name
  pub short : length x.name ≤ max_name_bytes
  pub free : is_reserved e x.name ≡ false
  pub width : IsWidth x.width

-- no two variables have the same name
abbrev pub Distinct : List Variable → Type 0
Distinct [] = Unit {0}
Distinct (x ∷ xs) = Each (λ y. x.name ≡ y.name → ⊥) xs × Distinct xs

-- a file within the limits, of sound variables and sound lines
pub record SoundFile (f : File) : Type 0 where
  pub few_variables : length f.variables ≤ max_variables
  pub few_lines : length f.lines ≤ max_lines
  pub variables : Each (SoundVariable (edition_of f)) f.variables
  pub distinct : Distinct f.variables
  pub lines : Each (SoundLine f.variables) f.lines

-- "well formed and well typed within the limits"
abbrev pub AcceptedIsSound : Type 0
AcceptedIsSound = (bytes : List ℕ) (f : File) → read_file bytes ≡ Ok f → SoundFile f
