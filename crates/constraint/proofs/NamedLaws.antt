-- The names of variables, and the variable of a name, among variables of different names. Assumes nothing.
use Prim.Native.Nat.{ℕ, suc, ◌≤◌, ◌<◌}
use mathlib.Core.Path.{◌≡◌, refl, sym, ap, ◌∙◌}
use mathlib.Core.Bool.{true}
use mathlib.Core.List.{List, [], ◌∷◌, ◌++◌}
use Rattle.std.specs.Prelude.{None, Some}
use native.Mathlib.Nat.{zero-add}
use native.Mathlib.Omega.{arith}
use lib.ListN.{length}
use Rattle.edition.specs.declared.Edition.{Edition}
use Rattle.edition.specs.Edition.{max_name_bytes}
use Rattle.refusal.specs.Lists.{first_from}
use Rattle.refusal.proofs.ListLaws.{first_passes}
use Rattle.text.specs.Bytes.{same}
use Rattle.text.specs.Spelling.{is_name}
use Rattle.text.proofs.NameLaws.{same_true, same_false}
use Rattle.constraint.specs.File.{Variable, variable_named, variable_at, name_at}
use Rattle.constraint.specs.Sound.{Each, SoundVariable, Distinct}
use Rattle.constraint.proofs.EachLaws.{each_at, each_here}
use Rattle.constraint.proofs.VariableLaws.{first_named}

-- the name of a sound variable
pub named_sound : (e : Edition) (xs : List Variable) (i : ℕ) → Each (SoundVariable e) xs → i < length xs → (is_name (name_at xs i) ≡ true) × (length (name_at xs i) ≤ max_name_bytes)
unfolding name_at
named_sound e xs i sound h = let s = each_at (SoundVariable e) xs i (variable_at [] 0) sound h in (s.spelt, s.short)

-- a name that no earlier variable has
first_new : (x : Variable) (xs ys : List Variable) (n : ℕ) → Distinct (xs ++ (x ∷ ys)) → first_from (λ y. same y.name x.name) n xs ≡ None
unfolding first_from
first_new x [] ys n d = refl
first_new x (y ∷ xs) ys n d = rw (same_false y.name x.name (each_here (λ z. y.name ≡ z.name → ⊥) xs x ys d.0)) (first_new x xs ys (suc n) d.1)

pub named_new : (x : Variable) (xs ys : List Variable) → Distinct (xs ++ (x ∷ ys)) → variable_named x.name xs ≡ None
unfolding variable_named
named_new x xs ys = first_new x xs ys 0

-- the variable of a name has that name
pub named_is : (name : List ℕ) (xs : List Variable) (i : ℕ) → variable_named name xs ≡ Some i → name_at xs i ≡ name
unfolding variable_named name_at
named_is name xs i e =
    let p = first_passes (λ x. same x.name name) (record { name = []; width = 0 }) 0 i xs e in
    let z : i ≡ p.0 = omega arith in
    rw z (same_true _ name p.2)

-- the variable of number i is the one that is found
module _ (xs : List Variable) (d : Distinct xs) where
  pub named_at : (i : ℕ) → i < length xs → variable_named (name_at xs i) xs ≡ Some i
  unfolding variable_named name_at
  named_at i h = first_named (name_at xs i) (record { name = []; width = 0 }) xs 0 i d h refl ∙ rw zero-add

  -- variables of one name are one
  pub same_number : (i j : ℕ) → i < length xs → j < length xs → name_at xs i ≡ name_at xs j → i ≡ j
  same_number i j h k e = let p : Some i ≡ Some j = sym (named_at i h) ∙ ap (λ (s : List ℕ). variable_named s xs) e ∙ named_at j k in cc p
