-- An operator has one spelling, which spells it. Assumes nothing.
use Prim.Native.Nat.{ℕ, ◌≤◌}
use Prim.Native.String.{String}
use mathlib.Core.Path.{◌≡◌, refl, sym, ap, ◌∙◌}
use mathlib.Core.Bool.{Bool, true, false, not, cond, ◌&&◌}
use mathlib.Core.List.{List, [], ◌∷◌}
use Rattle.std.specs.Prelude.{Some}
use lib.Dec.{eqb, leb}
use lib.ListN.{length}
use borrow.Author.Tests.{eq-eqb, leb-true, not-true}
use Rattle.edition.specs.declared.Edition.{Edition}
use Rattle.refusal.specs.Lists.{every}
use Rattle.refusal.specs.SubjectWords.{ascii}
use Rattle.refusal.proofs.BoolLaws.{and_true}
use Rattle.refusal.proofs.ResultLaws.{never}
use Rattle.arithmetic.specs.declared.Operator.{Operator}
use Rattle.arithmetic.specs.declared.Operator.TheVariants.{Combine, Not, Implies, Compare, Ite, Compute, Divide, Move, Trun, Extend, Conc, Extr}
use Rattle.arithmetic.specs.declared.Bitwise.TheVariants.{And, Or, Xor}
use Rattle.arithmetic.specs.declared.Comparison.TheVariants.{Equal, NotEqual, Ule, Uge, Ult, Ugt, Sle, Sge, Slt, Sgt}
use Rattle.arithmetic.specs.declared.Arithmetic.TheVariants.{Add, Sub, Mul}
use Rattle.arithmetic.specs.declared.Division.TheVariants.{Udiv, Sdiv, Urem, Srem}
use Rattle.arithmetic.specs.declared.Shift.TheVariants.{Shl, Ashr, Lshr}
use Rattle.arithmetic.specs.declared.Extension.TheVariants.{Sext, Zext}
use Rattle.arithmetic.specs.Numbering.{operator_number}
use Rattle.text.specs.Bytes.{same}
use Rattle.text.proofs.NameLaws.{same_true}
use Rattle.text.proofs.SeenLaws.{is_seen}
use Rattle.spelling.specs.Operators.{bitwise_spellings, predicate_spellings, arithmetic_spellings, shift_and_cast_spellings, spellings, operator_spelt, operator_named, spelling_in, spelling_of}
use Rattle.spelling.specs.Claims.{SpellsExactly}

-- an entry of a table passes a test, spells s, and is for op
pub record Entry (test : String × Operator → Bool) (s : List ℕ) (op : Operator) : Type 0 where
  pub entry : String × Operator
  pub passes : test entry ≡ true
  pub spells : ascii entry.0 ≡ s
  pub is : entry.1 ≡ op

-- what a table spells stands in the table
pub spelt_by : (test : String × Operator → Bool) (s : List ℕ) (op : Operator) (xs : List (String × Operator)) → every test xs ≡ true → operator_spelt s xs ≡ Some op → Entry test s op
unfolding every operator_spelt
spelt_by test s op [] h e = never (cc e)
spelt_by test s op (x ∷ xs) h e = let p = and_true (test x) (every test xs) h in go p.0 (same (ascii x.0) s) refl (spelt_by test s op xs p.1) e
  where
    go : test x ≡ true → (t : Bool) → same (ascii x.0) s ≡ t → (operator_spelt s xs ≡ Some op → Entry test s op) → cond t (Some x.1) (operator_spelt s xs) ≡ Some op → Entry test s op
    go k true d later q = record { entry = x; passes = k; spells = same_true (ascii x.0) s d; is = cc q }
    go k false d later q = later q

-- the operator of an entry has another number
abbrev other_number : ℕ → String × Operator → Bool
other_number n x = not (eqb n (operator_number x.1))

-- no two entries are for the same operator
abbrev unlike : List (String × Operator) → Bool
unlike [] = true
unlike (x ∷ xs) = every (other_number (operator_number x.1)) xs && unlike xs

-- in such a table, whatever spells an operator is its spelling
own : (s : List ℕ) (op : Operator) (xs : List (String × Operator)) → unlike xs ≡ true → operator_spelt s xs ≡ Some op → s ≡ spelling_in xs op
unfolding operator_spelt spelling_in
own s op [] u e = never (cc e)
own s op (x ∷ xs) u e = let p = and_true (every (other_number n) xs) (unlike xs) u in go (same (ascii x.0) s) refl p.0 (own s op xs p.1) e
  where
    n : ℕ
    n = operator_number x.1

    go : (t : Bool) → same (ascii x.0) s ≡ t → every (other_number n) xs ≡ true → (operator_spelt s xs ≡ Some op → s ≡ spelling_in xs op) → cond t (Some x.1) (operator_spelt s xs) ≡ Some op → s ≡ spelling_in (x ∷ xs) op
    go true d k later q = let z : x.1 ≡ op = cc q in rw (eq-eqb n (operator_number op) (ap operator_number z)) (sym (same_true (ascii x.0) s d))
    go false d k later q = let y = spelt_by (other_number n) s op xs k q in rw (not-true (eqb n (operator_number op)) (rw y.is at y.passes)) (later q)

all_unlike : (e : Edition) → unlike (spellings e) ≡ true
unfolding every spellings bitwise_spellings predicate_spellings arithmetic_spellings shift_and_cast_spellings operator_number
all_unlike e = refl

-- the spelling of an operator spells it
again : (e : Edition) (op : Operator) → operator_named e (spelling_of e op) ≡ Some op
unfolding spelling_of spelling_in operator_spelt same spellings bitwise_spellings predicate_spellings arithmetic_spellings shift_and_cast_spellings operator_number
again e (Combine And) = refl
again e (Combine Or) = refl
again e (Combine Xor) = refl
again e Not = refl
again e Implies = refl
again e (Compare Equal) = refl
again e (Compare NotEqual) = refl
again e (Compare Ule) = refl
again e (Compare Uge) = refl
again e (Compare Ult) = refl
again e (Compare Ugt) = refl
again e (Compare Sle) = refl
again e (Compare Sge) = refl
again e (Compare Slt) = refl
again e (Compare Sgt) = refl
again e Ite = refl
again e (Compute Add) = refl
again e (Compute Sub) = refl
again e (Compute Mul) = refl
again e (Divide Udiv) = refl
again e (Divide Sdiv) = refl
again e (Divide Urem) = refl
again e (Divide Srem) = refl
again e (Move Shl) = refl
again e (Move Ashr) = refl
again e (Move Lshr) = refl
again e Trun = refl
again e (Extend Sext) = refl
again e (Extend Zext) = refl
again e Conc = refl
again e Extr = refl

pub spells_exactly : SpellsExactly
unfolding spelling_of
spells_exactly e op s = (own s op (spellings e) (all_unlike e), λ q. ap (operator_named e) q ∙ again e op)

-- the bytes of a spelling are seen, and there is one at least
abbrev is_word : List ℕ → Bool
is_word s = every is_seen s && leb 1 (length s)

all_words : (e : Edition) → every (λ x. is_word (ascii x.0)) (spellings e) ≡ true
unfolding every is_seen spellings bitwise_spellings predicate_spellings arithmetic_spellings shift_and_cast_spellings
all_words e = refl

pub spelling_seen : (e : Edition) (op : Operator) → (every is_seen (spelling_of e op) ≡ true) × (1 ≤ length (spelling_of e op))
spelling_seen e op =
    let s = spelling_of e op in
    let y = spelt_by (λ x. is_word (ascii x.0)) s op (spellings e) (all_words e) (again e op) in
    let p = and_true (every is_seen s) (leb 1 (length s)) (rw y.spells at y.passes) in
    (p.0, leb-true 1 (length s) p.1)
