-- What is counted is no more than what it is counted from. Assumes nothing.
use Prim.Native.Nat.{ℕ, ◌≤◌}
use mathlib.Core.Bool.{not}
use mathlib.Core.List.{List, [], ◌∷◌, zip_with}
use native.Mathlib.Omega.{arith}
use lib.Dec.{eqb}
use lib.ListN.{length}
use Rattle.refusal.proofs.ManyLaws.{many_most}
use Rattle.moves.specs.Step.{differing}

-- ---- two lists, element by element: no longer than the first
pub zip_most : {A B C : Type 0} (f : A → B → C) (xs : List A) (ys : List B) → length (zip_with f xs ys) ≤ length xs
unfolding zip_with
zip_most f [] ys = omega arith
zip_most f (x ∷ xs) [] = omega arith
zip_most f (x ∷ xs) (y ∷ ys) = let z = zip_most f xs ys in omega arith

pub differing_most : (before after : List ℕ) → differing before after ≤ length before
unfolding differing
differing_most before after = omega (arith, many_most not (zip_with eqb before after), zip_most eqb before after)
