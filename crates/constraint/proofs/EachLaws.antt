-- What holds of each element of a list, and of more elements. Assumes nothing.
use Prim.Native.Nat.{ℕ, zero, suc, ◌<◌}
use mathlib.Core.Path.{◌≡◌}
use mathlib.Core.Bool.{Bool, false}
use mathlib.Core.List.{List, [], ◌∷◌, ◌++◌, map, nil≢cons, cons≢nil, head-eq_of_cons-eq, tail-eq_of_cons-eq}
use Rattle.std.specs.Prelude.{None}
use native.Mathlib.Omega.{arith}
use lib.ListN.{length, get_or, take}
use Rattle.refusal.specs.Lists.{first_from}
use Rattle.refusal.proofs.ResultLaws.{never}
use Rattle.refusal.proofs.ListLaws.{first_none}
use Rattle.constraint.specs.File.{Variable}
use Rattle.constraint.specs.Sound.{Each, Distinct}

pub each_map : {A : Type 0} {P Q : A → Type 0} → ((x : A) → P x → Q x) → (xs : List A) → Each P xs → Each Q xs
each_map h [] p = tt
each_map h (x ∷ xs) p = (h x p.0, each_map h xs p.1)

-- elements of another list that have the same keys
pub each_same : {A B : Type 0} {P : A → Type 0} (key : A → B) → ((x y : A) → key x ≡ key y → P x → P y) → (xs ys : List A) → map key xs ≡ map key ys → Each P xs → Each P ys
each_same key same [] [] e p = tt
each_same key same [] (y ∷ ys) e p = absurd (nil≢cons e)
each_same key same (x ∷ xs) [] e p = absurd (cons≢nil e)
each_same key same (x ∷ xs) (y ∷ ys) e p = (same x y (head-eq_of_cons-eq e) p.0, each_same key same xs ys (tail-eq_of_cons-eq e) p.1)

-- the element at a place
pub each_at : {A : Type 0} (P : A → Type 0) (xs : List A) (i : ℕ) (d : A) → Each P xs → i < length xs → P (get_or xs i d)
each_at P [] i d p h = let z : ⊥ = omega arith in absurd z
each_at P (x ∷ xs) zero d p h = p.0
each_at P (x ∷ xs) (suc i) d p h = each_at P xs i d p.1 (omega arith)

-- an element behind others
pub each_here : {A : Type 0} (P : A → Type 0) (xs : List A) (x : A) (ys : List A) → Each P (xs ++ (x ∷ ys)) → P x
each_here P [] x ys p = p.0
each_here P (y ∷ xs) x ys p = each_here P xs x ys p.1

-- more elements, and one element more
each_append : {A : Type 0} (P : A → Type 0) (xs ys : List A) → Each P xs → Each P ys → Each P (xs ++ ys)
each_append P [] ys p q = q
each_append P (x ∷ xs) ys p q = (p.0, each_append P xs ys p.1 q)

pub each_last : {A : Type 0} (P : A → Type 0) (xs : List A) (x : A) → Each P xs → P x → Each P (xs ++ (x ∷ []))
each_last P xs x p q = each_append P xs (x ∷ []) p (q, tt)

-- of the first n elements, those of a front
pub each_front : {A : Type 0} (P : A → Type 0) (n : ℕ) (xs ys : List A) → Each P (take n (xs ++ ys)) → Each P (take n xs)
each_front P zero xs ys p = tt
each_front P (suc n) [] ys p = tt
each_front P (suc n) (x ∷ xs) ys p = (p.0, each_front P n xs ys p.1)

-- no element at all
pub each_none : {A : Type 0} (P : A → Type 0) (xs : List A) → length xs ≡ 0 → Each P xs
each_none P [] e = tt
each_none P (x ∷ xs) e = never (cc e)

-- where no element is the first to pass a test, each fails
pub each_fails : {A : Type 0} (test : A → Bool) (n : ℕ) (xs : List A) → first_from test n xs ≡ None → Each (λ x. test x ≡ false) xs
each_fails test n [] e = tt
each_fails test n (x ∷ xs) e = let p = first_none test n x xs e in (p.0, each_fails test (suc n) xs p.1)

-- one variable more, whose name is new
pub distinct_last : (xs : List Variable) (x : Variable) → Distinct xs → Each (λ y. y.name ≡ x.name → ⊥) xs → Distinct (xs ++ (x ∷ []))
distinct_last [] x d h = (tt, tt)
distinct_last (y ∷ xs) x d h = (each_last (λ z. y.name ≡ z.name → ⊥) xs x d.0 h.0, distinct_last xs x d.1 h.1)
