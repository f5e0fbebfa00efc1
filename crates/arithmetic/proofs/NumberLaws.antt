-- The operators by number. Assumes nothing.
use mathlib.Core.Path.{◌≡◌, refl}
use Prim.Native.Nat.{◌≤◌}
use native.Mathlib.Omega.{arith}
use Rattle.arithmetic.specs.declared.Operator.{Operator}
use Rattle.arithmetic.specs.declared.Operator.TheVariants.{Combine, Not, Implies, Compare, Ite, Compute, Divide, Move, Trun, Extend, Conc, Extr}
use Rattle.arithmetic.specs.declared.Bitwise.TheVariants.{And, Or, Xor}
use Rattle.arithmetic.specs.declared.Comparison.TheVariants.{Equal, NotEqual, Ule, Uge, Ult, Ugt, Sle, Sge, Slt, Sgt}
use Rattle.arithmetic.specs.declared.Arithmetic.TheVariants.{Add, Sub, Mul}
use Rattle.arithmetic.specs.declared.Division.TheVariants.{Udiv, Sdiv, Urem, Srem}
use Rattle.arithmetic.specs.declared.Shift.TheVariants.{Shl, Ashr, Lshr}
use Rattle.arithmetic.specs.declared.Extension.TheVariants.{Sext, Zext}
use Rattle.arithmetic.specs.Numbering.{listed, operator_numbered, operator_number}

pub give_back : (op : Operator) → operator_numbered (operator_number op) ≡ op
unfolding operator_numbered listed operator_number
give_back (Combine And) = refl
give_back (Combine Or) = refl
give_back (Combine Xor) = refl
give_back Not = refl
give_back Implies = refl
give_back (Compare Equal) = refl
give_back (Compare NotEqual) = refl
give_back (Compare Ule) = refl
give_back (Compare Uge) = refl
give_back (Compare Ult) = refl
give_back (Compare Ugt) = refl
give_back (Compare Sle) = refl
give_back (Compare Sge) = refl
give_back (Compare Slt) = refl
give_back (Compare Sgt) = refl
give_back Ite = refl
give_back (Compute Add) = refl
give_back (Compute Sub) = refl
give_back (Compute Mul) = refl
give_back (Divide Udiv) = refl
give_back (Divide Sdiv) = refl
give_back (Divide Urem) = refl
give_back (Divide Srem) = refl
give_back (Move Shl) = refl
give_back (Move Ashr) = refl
give_back (Move Lshr) = refl
give_back Trun = refl
give_back (Extend Sext) = refl
give_back (Extend Zext) = refl
give_back Conc = refl
give_back Extr = refl

-- the number of an operator is no more than the last
pub number_most : (op : Operator) → operator_number op ≤ 30
unfolding operator_number
number_most (Combine And) = omega arith
number_most (Combine Or) = omega arith
number_most (Combine Xor) = omega arith
number_most Not = omega arith
number_most Implies = omega arith
number_most (Compare Equal) = omega arith
number_most (Compare NotEqual) = omega arith
number_most (Compare Ule) = omega arith
number_most (Compare Uge) = omega arith
number_most (Compare Ult) = omega arith
number_most (Compare Ugt) = omega arith
number_most (Compare Sle) = omega arith
number_most (Compare Sge) = omega arith
number_most (Compare Slt) = omega arith
number_most (Compare Sgt) = omega arith
number_most Ite = omega arith
number_most (Compute Add) = omega arith
number_most (Compute Sub) = omega arith
number_most (Compute Mul) = omega arith
number_most (Divide Udiv) = omega arith
number_most (Divide Sdiv) = omega arith
number_most (Divide Urem) = omega arith
number_most (Divide Srem) = omega arith
number_most (Move Shl) = omega arith
number_most (Move Ashr) = omega arith
number_most (Move Lshr) = omega arith
number_most Trun = omega arith
number_most (Extend Sext) = omega arith
number_most (Extend Zext) = omega arith
number_most Conc = omega arith
number_most Extr = omega arith
