-- The operators' spellings, by edition.
use Rattle.std.specs.Prelude.{ℕ, Bool, false, cond, ◌||◌, List, [], ◌∷◌, ◌++◌, eqb}
use Prim.Native.String.{String}
use Rattle.std.specs.Prelude.{Option, None, Some}
use Rattle.edition.specs.declared.Edition.{Edition}
use Rattle.arithmetic.specs.declared.Operator.{Operator}
use Rattle.arithmetic.specs.declared.Operator.TheVariants.{Combine, Not, Implies, Compare, Ite, Compute, Divide, Move, Trun, Extend, Conc, Extr}
use Rattle.arithmetic.specs.declared.Bitwise.TheVariants.{And, Or, Xor}
use Rattle.arithmetic.specs.declared.Comparison.TheVariants.{Equal, NotEqual, Ule, Uge, Ult, Ugt, Sle, Sge, Slt, Sgt}
use Rattle.arithmetic.specs.declared.Arithmetic.TheVariants.{Add, Sub, Mul}
use Rattle.arithmetic.specs.declared.Division.TheVariants.{Udiv, Sdiv, Urem, Srem}
use Rattle.arithmetic.specs.declared.Shift.TheVariants.{Shl, Ashr, Lshr}
use Rattle.arithmetic.specs.declared.Extension.TheVariants.{Sext, Zext}
use Rattle.arithmetic.specs.Numbering.{operator_number}
use Rattle.std.specs.Prelude.{is_some}
use Rattle.refusal.specs.SubjectWords.{ascii}
use Rattle.text.specs.Bytes.{same}

-- the spellings, by 003's sections: 7.1
unfoldable pub bitwise_spellings : List (String × Operator)
bitwise_spellings = ("&", Combine And) ∷ ("|", Combine Or) ∷ ("^", Combine Xor) ∷ ("~", Not) ∷ []

-- 7.2
unfoldable pub predicate_spellings : List (String × Operator)
predicate_spellings =
    ("=>", Implies) ∷ ("=", Compare Equal) ∷ ("/=", Compare NotEqual)
    ∷ ("ule", Compare Ule) ∷ ("uge", Compare Uge) ∷ ("ult", Compare Ult) ∷ ("ugt", Compare Ugt)
    ∷ ("sle", Compare Sle) ∷ ("sge", Compare Sge) ∷ ("slt", Compare Slt) ∷ ("sgt", Compare Sgt) ∷ []

-- 7.3 and 7.4
unfoldable pub arithmetic_spellings : List (String × Operator)
arithmetic_spellings =
    ("ite", Ite) ∷ ("+", Compute Add) ∷ ("-", Compute Sub) ∷ ("*", Compute Mul)
    ∷ ("/u", Divide Udiv) ∷ ("/s", Divide Sdiv) ∷ ("%u", Divide Urem) ∷ ("%s", Divide Srem) ∷ []

-- 7.5 and 7.6
unfoldable pub shift_and_cast_spellings : List (String × Operator)
shift_and_cast_spellings =
    ("<<", Move Shl) ∷ (">>a", Move Ashr) ∷ (">>l", Move Lshr)
    ∷ ("trun", Trun) ∷ ("sext", Extend Sext) ∷ ("zext", Extend Zext) ∷ ("conc", Conc) ∷ ("extr", Extr) ∷ []

-- the spellings of an edition's operators
unfoldable pub spellings : Edition → List (String × Operator)
spellings e = bitwise_spellings ++ predicate_spellings ++ arithmetic_spellings ++ shift_and_cast_spellings

-- the operator of the first spelling that is s
unfoldable pub operator_spelt : List ℕ → List (String × Operator) → Option Operator
operator_spelt s [] = None
operator_spelt s (x ∷ xs) = let rest = operator_spelt s xs in cond (same (ascii x.0) s) (Some x.1) rest

-- the operator that s spells in an edition
abbrev pub operator_named : Edition → List ℕ → Option Operator
operator_named e s = operator_spelt s (spellings e)

-- the spelling of an operator in a list: that of the first one with its number; none is no bytes
unfoldable pub spelling_in : List (String × Operator) → Operator → List ℕ
spelling_in [] op = []
spelling_in (x ∷ xs) op = let rest = spelling_in xs op in cond (eqb (operator_number x.1) (operator_number op)) (ascii x.0) rest

-- the spelling of an operator in an edition
unfoldable pub spelling_of : Edition → Operator → List ℕ
spelling_of e op = spelling_in (spellings e) op

-- "The 14 word operators .. are reserved": a name that spells an operator is
abbrev pub is_reserved : Edition → List ℕ → Bool
is_reserved e s = is_some (operator_named e s)

-- the reserved words: "ule uge ult ugt sle sge slt sgt ite trun sext zext conc extr"
unfoldable pub reserved_words : Edition → List String
reserved_words e =
    "ule" ∷ "uge" ∷ "ult" ∷ "ugt" ∷ "sle" ∷ "sge" ∷ "slt" ∷ "sgt"
    ∷ "ite" ∷ "trun" ∷ "sext" ∷ "zext" ∷ "conc" ∷ "extr" ∷ []

-- whether a text is one of the words
unfoldable pub is_one_of_words : List ℕ → List String → Bool
is_one_of_words s [] = false
is_one_of_words s (w ∷ ws) = same (ascii w) s || is_one_of_words s ws
