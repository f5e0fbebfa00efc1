-- When every variable is set, from one variable to the next. Assumes nothing.
use Prim.Native.Nat.{ℕ, zero, suc, ◌+◌, ◌<◌}
use mathlib.Core.Path.{◌≡◌, refl, ◌∙◌}
use mathlib.Core.List.{List, [], ◌∷◌, ◌++◌}
use Rattle.std.specs.Prelude.{Option, None, Some, option_map}
use native.Mathlib.Omega.{arith}
use lib.ListN.{length, get_or, take, set}
use Rattle.std.proofs.lemmas.List.{take_more, take_more_set}
use Rattle.refusal.proofs.ResultLaws.{never}
use Rattle.answer.specs.Read.{all_set}

-- one more at the end
all_more : (vs : List (Option ℕ)) (v : ℕ) → all_set (vs ++ (Some v ∷ [])) ≡ option_map (λ row. row ++ (v ∷ [])) (all_set vs)
unfolding all_set
all_more [] v = refl
all_more (None ∷ vs) v = refl
all_more (Some w ∷ vs) v = go (all_set vs) (all_more vs v)
  where
    go : (o : Option (List ℕ)) → all_set (vs ++ (Some v ∷ [])) ≡ option_map (λ row. row ++ (v ∷ [])) o → option_map (λ row. w ∷ row) (all_set (vs ++ (Some v ∷ []))) ≡ option_map (λ row. row ++ (v ∷ [])) (option_map (λ row. w ∷ row) o)
    go None e = rw e
    go (Some row) e = rw e

pub all_start : (vs : List (Option ℕ)) (row : List ℕ) → all_set (take 0 vs) ≡ Some (take 0 row)
unfolding all_set
all_start vs row = refl

-- the row of the first i values, and the next
pub all_next : (vs : List (Option ℕ)) (row : List ℕ) (i v : ℕ) → i < length vs → i < length row → get_or vs i None ≡ Some v → all_set (take i vs) ≡ Some (take i row) → all_set (take (i + 1) vs) ≡ Some (take (i + 1) (set row i v))
all_next vs row i v h k e q = rw (take_more vs i None h, e, take_more_set row i v k) (all_more (take i vs) v ∙ rw q)

-- one that is not set
pub all_missing : (vs : List (Option ℕ)) (i : ℕ) → i < length vs → get_or vs i None ≡ None → all_set vs ≡ None
unfolding all_set
all_missing [] i h e = let z : ⊥ = omega arith in absurd z
all_missing (None ∷ vs) i h e = refl
all_missing (Some w ∷ vs) zero h e = never (cc e)
all_missing (Some w ∷ vs) (suc i) h e = rw (all_missing vs i (omega arith) e)
