-- Lists: one element more at the end. Assumes nothing.
use mathlib.Core.Path.{◌≡◌, refl, sym, ap, ◌∙◌}
use mathlib.Core.List.{List, [], ◌∷◌, ◌++◌, zip_with, flatten, append-nil, append_assoc}
use Prim.Native.Nat.{◌<◌}
use native.Mathlib.Omega.{arith}
use lib.ListN.{length, get_or}

-- two lists joined element by element, and lists joined end to end
pub zip_snoc : {A B C : Type 0} (f : A → B → C) (d : B) (xs : List A) (x : A) (ys : List B) → length xs < length ys
    → zip_with f (xs ++ (x ∷ [])) ys ≡ zip_with f xs ys ++ (f x (get_or ys (length xs) d) ∷ [])
unfolding zip_with
zip_snoc f d [] x [] h = let z : ⊥ = omega arith in absurd z
zip_snoc f d [] x (y ∷ ys) h = refl
zip_snoc f d (a ∷ xs) x [] h = let z : ⊥ = omega arith in absurd z
zip_snoc f d (a ∷ xs) x (y ∷ ys) h = ap (λ l. f a y ∷ l) (zip_snoc f d xs x ys (omega arith))

pub flatten_snoc : {A : Type 0} (ls : List (List A)) (l : List A) → flatten (ls ++ (l ∷ [])) ≡ flatten ls ++ l
unfolding flatten
flatten_snoc [] l = append-nil l
flatten_snoc (k ∷ ls) l = ap (λ r. k ++ r) (flatten_snoc ls l) ∙ sym (append_assoc k (flatten ls) l)
