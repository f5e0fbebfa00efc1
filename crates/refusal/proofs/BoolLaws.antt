-- Tests that are joined by `&&` and `||`. Assumes nothing.
use mathlib.Core.Path.{◌≡◌, refl, sym, ◌∙◌}
use mathlib.Core.Bool.{Bool, true, false, not, ◌&&◌, ◌||◌}
use borrow.Author.Tests.{not-true, not-false}
use Rattle.refusal.proofs.ResultLaws.{never}

-- both of two tests pass
pub and_true : (x y : Bool) → (x && y) ≡ true → (x ≡ true) × (y ≡ true)
and_true true y e = (refl, e)
and_true false y e = never (cc e)

pub and_false : (x : Bool) → (x && false) ≡ false
and_false true = refl
and_false false = refl

-- one, two and three tests, as a list of tests joins them
pub and_one : (x : Bool) → (x && true) ≡ x
and_one true = refl
and_one false = refl

pub and_two : (x y : Bool) → (x && (y && true)) ≡ (x && y)
and_two true y = and_one y
and_two false y = refl

pub and_three : (x y z : Bool) → (x && (y && (z && true))) ≡ ((x && y) && z)
and_three true y z = and_two y z
and_three false y z = refl

-- a test or one that passes, and one that does not
pub or_true : (t : Bool) → (t || true) ≡ true
or_true true = refl
or_true false = refl

pub or_false : (t : Bool) → (t || false) ≡ t
or_false true = refl
or_false false = refl

-- a test that does not pass
pub fails : (t : Bool) → (t ≡ true → ⊥) → t ≡ false
fails true h = absurd (h refl)
fails false h = refl

-- one of two tests passes
pub either : {A : Type 0} (x y : Bool) → (x ≡ true → A) → (y ≡ true → A) → (x || y) ≡ true → A
either true y f g e = f refl
either false y f g e = g e

-- the result r of a test t, where `if !r` was passed over or taken
pub passed : {r t : Bool} → r ≡ t → not r ≡ false → t ≡ true
passed {r} e h = sym e ∙ not-false r h

pub failed : {r t : Bool} → r ≡ t → not r ≡ true → t ≡ false
failed {r} e h = sym e ∙ not-true r h
