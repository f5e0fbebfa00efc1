-- The table cases W1 to W12.
use Rattle.std.specs.Prelude.{ℕ, ◌≡◌, List, [], ◌∷◌, map}
use Rattle.std.specs.Prelude.{Some}
use Rattle.arithmetic.specs.declared.Operator.{Operator}
use Rattle.arithmetic.specs.declared.Operator.TheVariants.{Compare, Compute, Divide, Move, Trun, Conc, Extr}
use Rattle.arithmetic.specs.declared.Comparison.TheVariants.{Slt, Sge}
use Rattle.arithmetic.specs.declared.Arithmetic.TheVariants.{Add, Sub}
use Rattle.arithmetic.specs.declared.Division.TheVariants.{Sdiv, Srem}
use Rattle.arithmetic.specs.declared.Shift.TheVariants.{Shl, Ashr}
use Rattle.arithmetic.specs.declared.Word.{Word}
use Rattle.arithmetic.specs.Meaning.{meaning}

-- the value v at width k, written v:ik in a file
infix 80 ◌∶◌
abbrev pub ◌∶◌ : ℕ → ℕ → Word
v ∶ k = record { width = k; value = v }

-- no operand
abbrev pub absent : Word
absent = 0 ∶ 0

-- an operator, its operands, and its result
pub record Case : Type 0 where
  pub case_operator : Operator
  pub case_first : Word
  pub case_second : Word
  pub case_third : Word
  pub case_result : Word

abbrev pub table_case : Operator → Word → Word → Word → Word → Case
table_case op a b c r = record { case_operator = op; case_first = a; case_second = b; case_third = c; case_result = r }

-- W9 has two cases, one for `/s` and one for `%s`
unfoldable pub cases : List Case
cases =
    table_case Conc (1 ∶ 8) (0 ∶ 8) absent (256 ∶ 16)
    ∷ table_case Extr (22 ∶ 8) (0 ∶ 8) (3 ∶ 8) (6 ∶ 3)
    ∷ table_case Extr (22 ∶ 8) (3 ∶ 8) (4 ∶ 8) (0 ∶ 1)
    ∷ table_case Trun (43 ∶ 32) absent absent (3 ∶ 2)
    ∷ table_case (Compute Add) (1 ∶ 8) (128 ∶ 8) absent (129 ∶ 8)
    ∷ table_case (Compute Sub) (1 ∶ 8) (128 ∶ 8) absent (129 ∶ 8)
    ∷ table_case (Compare Slt) (128 ∶ 8) (127 ∶ 8) absent (1 ∶ 1)
    ∷ table_case (Compare Sge) (0 ∶ 1) (1 ∶ 1) absent (1 ∶ 1)
    ∷ table_case (Divide Sdiv) (249 ∶ 8) (2 ∶ 8) absent (252 ∶ 8)
    ∷ table_case (Divide Srem) (249 ∶ 8) (2 ∶ 8) absent (1 ∶ 8)
    ∷ table_case (Divide Sdiv) (128 ∶ 8) (255 ∶ 8) absent (128 ∶ 8)
    ∷ table_case (Move Shl) (1 ∶ 8) (8 ∶ 8) absent (0 ∶ 8)
    ∷ table_case (Move Ashr) (128 ∶ 8) (200 ∶ 8) absent (255 ∶ 8)
    ∷ []

-- the meaning of each case, at the width of its result, is its result
abbrev pub TableCases : Type 0
TableCases = map (λ r. meaning r.case_operator r.case_result.width r.case_first r.case_second r.case_third) cases ≡ map (λ r. Some r.case_result.value) cases
