-- The operators by number.
use Rattle.std.specs.Prelude.{ℕ, List, [], ◌∷◌, ◌≡◌, get_or}
use Rattle.arithmetic.specs.declared.Operator.{Operator}
use Rattle.arithmetic.specs.declared.Operator.TheVariants.{Combine, Not, Implies, Compare, Ite, Compute, Divide, Move, Trun, Extend, Conc, Extr}
use Rattle.arithmetic.specs.declared.Bitwise.{Bitwise}
use Rattle.arithmetic.specs.declared.Bitwise.TheVariants.{And, Or, Xor}
use Rattle.arithmetic.specs.declared.Comparison.{Comparison}
use Rattle.arithmetic.specs.declared.Comparison.TheVariants.{Equal, NotEqual, Ule, Uge, Ult, Ugt, Sle, Sge, Slt, Sgt}
use Rattle.arithmetic.specs.declared.Arithmetic.{Arithmetic}
use Rattle.arithmetic.specs.declared.Arithmetic.TheVariants.{Add, Sub, Mul}
use Rattle.arithmetic.specs.declared.Division.{Division}
use Rattle.arithmetic.specs.declared.Division.TheVariants.{Udiv, Sdiv, Urem, Srem}
use Rattle.arithmetic.specs.declared.Shift.{Shift}
use Rattle.arithmetic.specs.declared.Shift.TheVariants.{Shl, Ashr, Lshr}
use Rattle.arithmetic.specs.declared.Extension.{Extension}
use Rattle.arithmetic.specs.declared.Extension.TheVariants.{Sext, Zext}

-- the operators in the order in which 01 lists their spellings
unfoldable pub listed : List Operator
listed =
    Combine And ∷ Combine Or ∷ Combine Xor ∷ Not ∷ Implies ∷ Compare Equal ∷ Compare NotEqual
    ∷ Compare Ule ∷ Compare Uge ∷ Compare Ult ∷ Compare Ugt ∷ Compare Sle ∷ Compare Sge ∷ Compare Slt ∷ Compare Sgt
    ∷ Ite ∷ Compute Add ∷ Compute Sub ∷ Compute Mul ∷ Divide Udiv ∷ Divide Sdiv ∷ Divide Urem ∷ Divide Srem
    ∷ Move Shl ∷ Move Ashr ∷ Move Lshr ∷ Trun ∷ Extend Sext ∷ Extend Zext ∷ Conc ∷ Extr ∷ []

-- the operator of number n, from 0; any larger number is the last one's
unfoldable pub operator_numbered : ℕ → Operator
operator_numbered n = get_or listed n Extr

-- the number of an operator, by its kind
abbrev pub bitwise_number : Bitwise → ℕ
bitwise_number And = 0
bitwise_number Or = 1
bitwise_number Xor = 2

abbrev pub comparison_number : Comparison → ℕ
comparison_number Equal = 5
comparison_number NotEqual = 6
comparison_number Ule = 7
comparison_number Uge = 8
comparison_number Ult = 9
comparison_number Ugt = 10
comparison_number Sle = 11
comparison_number Sge = 12
comparison_number Slt = 13
comparison_number Sgt = 14

abbrev pub arithmetic_number : Arithmetic → ℕ
arithmetic_number Add = 16
arithmetic_number Sub = 17
arithmetic_number Mul = 18

abbrev pub division_number : Division → ℕ
division_number Udiv = 19
division_number Sdiv = 20
division_number Urem = 21
division_number Srem = 22

abbrev pub shift_number : Shift → ℕ
shift_number Shl = 23
shift_number Ashr = 24
shift_number Lshr = 25

abbrev pub extension_number : Extension → ℕ
extension_number Sext = 27
extension_number Zext = 28

unfoldable pub operator_number : Operator → ℕ
operator_number (Combine o) = bitwise_number o
operator_number Not = 3
operator_number Implies = 4
operator_number (Compare o) = comparison_number o
operator_number Ite = 15
operator_number (Compute o) = arithmetic_number o
operator_number (Divide o) = division_number o
operator_number (Move o) = shift_number o
operator_number Trun = 26
operator_number (Extend o) = extension_number o
operator_number Conc = 29
operator_number Extr = 30

-- the number gives the operator back
abbrev pub NumbersGiveBack : Type 0
NumbersGiveBack = (op : Operator) → operator_numbered (operator_number op) ≡ op
