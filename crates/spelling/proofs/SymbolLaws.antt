-- The spelling at an operator's number, among the spellings in their order. Assumes nothing.
use Prim.Native.Nat.{ℕ}
use mathlib.Core.Path.{◌≡◌, refl}
use mathlib.Core.List.{List, map}
use lib.ListN.{get_or}
use Rattle.edition.specs.declared.Edition.{Edition}
use Rattle.edition.specs.Edition.{edition10}
use Rattle.refusal.specs.SubjectWords.{ascii}
use Rattle.arithmetic.specs.declared.Operator.{Operator}
use Rattle.arithmetic.specs.declared.Operator.TheVariants.{Combine, Not, Implies, Compare, Ite, Compute, Divide, Move, Trun, Extend, Conc, Extr}
use Rattle.arithmetic.specs.declared.Bitwise.TheVariants.{And, Or, Xor}
use Rattle.arithmetic.specs.declared.Comparison.TheVariants.{Equal, NotEqual, Ule, Uge, Ult, Ugt, Sle, Sge, Slt, Sgt}
use Rattle.arithmetic.specs.declared.Arithmetic.TheVariants.{Add, Sub, Mul}
use Rattle.arithmetic.specs.declared.Division.TheVariants.{Udiv, Sdiv, Urem, Srem}
use Rattle.arithmetic.specs.declared.Shift.TheVariants.{Shl, Ashr, Lshr}
use Rattle.arithmetic.specs.declared.Extension.TheVariants.{Sext, Zext}
use Rattle.arithmetic.specs.Numbering.{operator_number}
use Rattle.spelling.specs.Operators.{spelling_of, spelling_in, spellings, bitwise_spellings, predicate_spellings, arithmetic_spellings, shift_and_cast_spellings}

-- the spellings in order
abbrev pub words : List (List ℕ)
words = map (λ x. ascii x.0) (spellings edition10)

-- each stands at its operator's number
pub at_number : (e : Edition) (op : Operator) (d : List ℕ) → get_or words (operator_number op) d ≡ spelling_of e op
unfolding spelling_of spelling_in spellings bitwise_spellings predicate_spellings arithmetic_spellings shift_and_cast_spellings operator_number
at_number e (Combine And) d = refl
at_number e (Combine Or) d = refl
at_number e (Combine Xor) d = refl
at_number e Not d = refl
at_number e Implies d = refl
at_number e (Compare Equal) d = refl
at_number e (Compare NotEqual) d = refl
at_number e (Compare Ule) d = refl
at_number e (Compare Uge) d = refl
at_number e (Compare Ult) d = refl
at_number e (Compare Ugt) d = refl
at_number e (Compare Sle) d = refl
at_number e (Compare Sge) d = refl
at_number e (Compare Slt) d = refl
at_number e (Compare Sgt) d = refl
at_number e Ite d = refl
at_number e (Compute Add) d = refl
at_number e (Compute Sub) d = refl
at_number e (Compute Mul) d = refl
at_number e (Divide Udiv) d = refl
at_number e (Divide Sdiv) d = refl
at_number e (Divide Urem) d = refl
at_number e (Divide Srem) d = refl
at_number e (Move Shl) d = refl
at_number e (Move Ashr) d = refl
at_number e (Move Lshr) d = refl
at_number e Trun d = refl
at_number e (Extend Sext) d = refl
at_number e (Extend Zext) d = refl
at_number e Conc d = refl
at_number e Extr d = refl
