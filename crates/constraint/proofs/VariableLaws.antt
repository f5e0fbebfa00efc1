-- The variable of a name, and widths as the claims say them. Assumes nothing.
use Prim.Native.Nat.{ℕ, zero, suc, ◌+◌, ◌<◌}
use mathlib.Core.Path.{◌≡◌, sym, ◌∙◌}
use mathlib.Core.Bool.{true, false}
use mathlib.Core.List.{List, [], ◌∷◌}
use Rattle.std.specs.Prelude.{None, Some}
use native.Mathlib.Nat.{add-zero}
use native.Mathlib.Omega.{arith}
use lib.ListN.{length, get_or}
use borrow.Author.Tests.{le-leb}
use Rattle.edition.specs.declared.Edition.{Edition}
use Rattle.edition.specs.Edition.{max_width, is_width}
use Rattle.refusal.specs.Lists.{first_from}
use Rattle.refusal.proofs.ResultLaws.{never}
use Rattle.refusal.proofs.ListLaws.{first_below}
use Rattle.text.specs.Bytes.{same}
use Rattle.text.proofs.NameLaws.{same_self, same_false}
use Rattle.constraint.specs.File.{Variable, variable_named, width_at}
use Rattle.constraint.specs.Sound.{Each, SoundVariable, Distinct}
use Rattle.arithmetic.specs.Evaluable.{IsWidth}
use Rattle.constraint.proofs.EachLaws.{each_map, each_at, each_fails}

-- a width passes the test
pub width_test : (k : ℕ) → IsWidth k → is_width k ≡ true
unfolding is_width
width_test k h = rw (le-leb 1 k h.least, le-leb k max_width h.most)

-- the width of a sound variable
pub variable_width : (e : Edition) (xs : List Variable) (i : ℕ) → Each (SoundVariable e) xs → i < length xs → is_width (width_at xs i) ≡ true
unfolding width_at
variable_width e xs i h p = width_test _ (each_at (SoundVariable e) xs i (record { name = []; width = 0 }) h p).width

-- a name that is not found is no variable's
differs : (name : List ℕ) (y : Variable) → same y.name name ≡ false → y.name ≡ name → ⊥
differs name y e q = never (cc (same_self name))

pub new_name_lem : (name : List ℕ) (xs : List Variable) → variable_named name xs ≡ None → Each (λ y. y.name ≡ name → ⊥) xs
unfolding variable_named
new_name_lem name xs e = each_map (differs name) xs (each_fails (λ y. same y.name name) 0 xs e)

-- a name that is found has the number of a variable
pub variable_within : (name : List ℕ) (xs : List Variable) (i : ℕ) → variable_named name xs ≡ Some i → i < length xs
unfolding variable_named
variable_within name xs i e = let h = first_below (λ y. same y.name name) 0 i xs e in omega arith

-- where no two names are the same, any variable that has the name is the one found
pub first_named : (name : List ℕ) (d : Variable) (xs : List Variable) (k i : ℕ) → Distinct xs → i < length xs → (get_or xs i d).name ≡ name → first_from (λ x. same x.name name) k xs ≡ Some (k + i)
unfolding first_from
first_named name d [] k i u h e = let z : ⊥ = omega arith in absurd z
first_named name d (x ∷ xs) k zero u h e = rw (e, same_self name, add-zero k)
first_named name d (x ∷ xs) k (suc i) u h e =
    let other : same x.name name ≡ false = same_false x.name name (λ q. each_at (λ y. x.name ≡ y.name → ⊥) xs i d u.0 (omega arith) (q ∙ sym e)) in
    let place : suc k + i ≡ k + suc i = omega arith in
    rw (other, ← place) (first_named name d xs (suc k) i u.1 (omega arith) e)
