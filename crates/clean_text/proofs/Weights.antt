-- How many bytes things take, with one byte more for each. Assumes nothing.
use Prim.Native.Nat.{ℕ, suc, ◌+◌}
use mathlib.Core.Path.{◌≡◌, refl}
use mathlib.Core.Bool.{cond}
use mathlib.Core.List.{List, [], ◌∷◌, ◌++◌, flat_map}
use native.Mathlib.Omega.{arith}
use lib.Dec.{eqb}
use lib.ListN.{length, length-append}
use Rattle.plain.specs.Says.{Said}

-- the bytes of texts, and one more for each
abbrev pub texts_weight : List (List ℕ) → ℕ
texts_weight [] = 0
texts_weight (s ∷ ss) = suc (length s) + texts_weight ss

-- of a line: its letter, its tokens with a byte for each, and one more; nothing where it has no letter
abbrev pub said_weight : Said → ℕ
said_weight s = cond (eqb s.letter 0) 0 (2 + texts_weight s.tokens)

abbrev pub saids_weight : List Said → ℕ
saids_weight [] = 0
saids_weight (s ∷ ss) = said_weight s + saids_weight ss

pub weight_append : (xs ys : List (List ℕ)) → texts_weight (xs ++ ys) ≡ texts_weight xs + texts_weight ys
weight_append [] ys = omega arith
weight_append (x ∷ xs) ys = omega (arith, weight_append xs ys)

pub saids_append : (xs ys : List Said) → saids_weight (xs ++ ys) ≡ saids_weight xs + saids_weight ys
saids_append [] ys = omega arith
saids_append (x ∷ xs) ys = omega (arith, saids_append xs ys)

-- texts, each behind one byte
pub length_joined : (c : ℕ) (ss : List (List ℕ)) → length (flat_map (λ s. c ∷ s) ss) ≡ texts_weight ss
unfolding flat_map
length_joined c [] = refl
length_joined c (s ∷ ss) = omega (arith, length-append s (flat_map (λ s. c ∷ s) ss), length_joined c ss)
