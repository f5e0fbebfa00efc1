-- Numbers that pass each beside the one behind it, place by place. Assumes nothing.
use Prim.Native.Nat.{ℕ, zero, suc, ◌<◌}
use mathlib.Core.Path.{◌≡◌, refl}
use mathlib.Core.Bool.{Bool, true}
use mathlib.Core.List.{List, [], ◌∷◌}
use native.Mathlib.Omega.{arith}
use lib.ListN.{length, get_or}
use Rattle.refusal.proofs.BoolLaws.{and_true}
use Rattle.index.specs.AnyIndex.{neighbours}

module _ (test : ℕ → ℕ → Bool) where
  pub neighbours_at : (l : List ℕ) → ((i : ℕ) → suc i < length l → test (get_or l i 0) (get_or l (suc i) 0) ≡ true) → neighbours test l ≡ true
  unfolding neighbours
  neighbours_at [] h = refl
  neighbours_at (a ∷ []) h = refl
  neighbours_at (a ∷ b ∷ l) h = rw (h 0 (omega arith)) (neighbours_at (b ∷ l) (λ i q. h (suc i) (omega arith)))

  pub neighbours_get : (l : List ℕ) (i : ℕ) → neighbours test l ≡ true → suc i < length l → test (get_or l i 0) (get_or l (suc i) 0) ≡ true
  unfolding neighbours
  neighbours_get [] i e h = let z : ⊥ = omega arith in absurd z
  neighbours_get (a ∷ []) i e h = let z : ⊥ = omega arith in absurd z
  neighbours_get (a ∷ b ∷ l) zero e h = (and_true (test a b) (neighbours test (b ∷ l)) e).0
  neighbours_get (a ∷ b ∷ l) (suc i) e h = neighbours_get (b ∷ l) i (and_true (test a b) (neighbours test (b ∷ l)) e).1 (omega arith)
