-- An operator is read by its spelling, and by nothing else: no two spellings are the same. Assumes nothing.
use Prim.Native.Nat.{ℕ}
use Prim.Native.String.{String}
use mathlib.Core.Path.{◌≡◌, refl, sym, ap, subst}
use mathlib.Core.Bool.{Bool, true, false, cond, not, ◌&&◌}
use mathlib.Core.List.{List, [], ◌∷◌, ◌++◌}
use Rattle.std.specs.Prelude.{Some}
use borrow.Author.Tests.{not-true}
use Rattle.edition.specs.declared.Edition.{Edition}
use Rattle.refusal.specs.Lists.{every}
use Rattle.refusal.specs.SubjectWords.{ascii}
use Rattle.refusal.proofs.ResultLaws.{never}
use Rattle.refusal.proofs.BoolLaws.{and_true}
use Rattle.arithmetic.specs.declared.Operator.{Operator}
use Rattle.text.specs.Bytes.{same}
use Rattle.text.proofs.NameLaws.{same_self, same_true}
use Rattle.spelling.specs.Operators.{bitwise_spellings, predicate_spellings, arithmetic_spellings, shift_and_cast_spellings, spellings, operator_spelt, operator_named}
use Rattle.plain.specs.Says.{SpellsOperator}

-- whether no spelling of a table is that of a later entry
abbrev unlike : List (String × Operator) → Bool
unlike [] = true
unlike (x ∷ xs) = every (λ y. not (same (ascii x.0) (ascii y.0))) xs && unlike xs

all_unlike : (e : Edition) → unlike (spellings e) ≡ true
unfolding spellings bitwise_spellings predicate_spellings arithmetic_spellings shift_and_cast_spellings every same
all_unlike e = refl

-- what is found is an entry
record Entry (token : List ℕ) (op : Operator) (xs : List (String × Operator)) : Type 0 where
  text : String
  earlier : List (String × Operator)
  later : List (String × Operator)
  in_table : xs ≡ earlier ++ (text, op) ∷ later
  is : token ≡ ascii text

found : (token : List ℕ) (op : Operator) (xs : List (String × Operator)) → operator_spelt token xs ≡ Some op → Entry token op xs
unfolding operator_spelt
found token op [] e = never (cc e)
found token op (x ∷ xs) e = go (same (ascii x.0) token) refl (found token op xs) e
  where
    go : (t : Bool) → same (ascii x.0) token ≡ t → (operator_spelt token xs ≡ Some op → Entry token op xs) → cond t (Some x.1) (operator_spelt token xs) ≡ Some op → Entry token op (x ∷ xs)
    go true p ih q = let z : x.1 ≡ op = cc q in record { text = x.0; earlier = []; later = xs; in_table = ap (λ (o : Operator). (x.0, o) ∷ xs) z; is = sym (same_true (ascii x.0) token p) }
    go false p ih q = let h = ih q in record { text = h.text; earlier = x ∷ h.earlier; later = h.later; in_table = ap (λ (ys : List (String × Operator)). x ∷ ys) h.in_table; is = h.is }

-- an entry whose spelling no earlier one has is found
every_here : {A : Type 0} (test : A → Bool) (xs : List A) (x : A) (ys : List A) → every test (xs ++ x ∷ ys) ≡ true → test x ≡ true
unfolding every
every_here test [] x ys e = (and_true (test x) (every test ys) e).0
every_here test (z ∷ xs) x ys e = every_here test xs x ys (and_true (test z) (every test (xs ++ x ∷ ys)) e).1

find : (text : String) (op : Operator) (xs ys : List (String × Operator)) → unlike (xs ++ (text, op) ∷ ys) ≡ true → operator_spelt (ascii text) (xs ++ (text, op) ∷ ys) ≡ Some op
unfolding operator_spelt
find text op [] ys u = rw (same_self (ascii text))
find text op (x ∷ xs) ys u =
    let p = and_true (every (λ y. not (same (ascii x.0) (ascii y.0))) (xs ++ (text, op) ∷ ys)) (unlike (xs ++ (text, op) ∷ ys)) u in
    rw (not-true (same (ascii x.0) (ascii text)) (every_here (λ y. not (same (ascii x.0) (ascii y.0))) xs (text, op) ys p.0)) (find text op xs ys p.1)

module _ (e : Edition) (token : List ℕ) (op : Operator) where
  pub operator_is : operator_named e token ≡ Some op → SpellsOperator e token op
  operator_is h = let p = found token op (spellings e) h in record { text = p.text; earlier = p.earlier; later = p.later; in_table = p.in_table; spelt = p.is }

  pub operator_again : SpellsOperator e token op → operator_named e token ≡ Some op
  operator_again h =
      let u = subst (λ (xs : List (String × Operator)). unlike xs ≡ true) h.in_table (all_unlike e) in
      rw (h.spelt, h.in_table) (find h.text op h.earlier h.later u)
