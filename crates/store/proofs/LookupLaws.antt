-- The variable of a name. Assumes nothing.
use Prim.Native.Nat.{ℕ, zero, suc, ◌+◌, ◌<◌}
use mathlib.Core.Path.{◌≡◌, refl, ap, ◌∙◌}
use mathlib.Core.Bool.{Bool, true, false}
use mathlib.Core.List.{List, [], ◌∷◌}
use Rattle.std.specs.Prelude.{None, Some}
use native.Mathlib.Omega.{arith}
use lib.ListN.{length, get_or}
use Rattle.refusal.specs.Lists.{first_from}
use Rattle.refusal.proofs.ListLaws.{first_behind}
use Rattle.text.specs.Bytes.{same}
use Rattle.text.proofs.NameLaws.{same_true}
use Rattle.constraint.specs.File.{Variable, variable_named}
use Rattle.store.specs.Tables.{tabulate, variable_in, variables_in}
use Rattle.constraint.specs.Sound.{Distinct}
use Rattle.store.proofs.TableLaws.{length-tabulate, get_d_tabulate}
use Rattle.constraint.proofs.VariableLaws.{first_named}

pub variables_length : (file table : List ℕ) (n : ℕ) → length (variables_in file table n) ≡ n
unfolding variables_in
variables_length file table = length-tabulate (variable_in file table)

-- no element of a table passes
module _ {A : Type 0} (test : A → Bool) (f : ℕ → A) where
  none_passes : (n : ℕ) → ((v : ℕ) → v < n → test (f v) ≡ false) → first_from test 0 (tabulate f n) ≡ None
  unfolding first_from tabulate
  none_passes zero h = refl
  none_passes (suc n) h =
      first_behind test 0 (tabulate f n) (f n ∷ []) (none_passes n (λ v l. h v (omega arith))) ∙ rw (h n (omega arith))

module _ (name file table : List ℕ) (n : ℕ) where
  -- none of the variables has the name
  pub named_nowhere : ((v : ℕ) → v < n → same (variable_in file table v).name name ≡ false) → variable_named name (variables_in file table n) ≡ None
  unfolding variable_named variables_in
  named_nowhere h = none_passes (λ x. same x.name name) (variable_in file table) n h

  -- variable i has it, and no other
  pub named_there : Distinct (variables_in file table n) → (i : ℕ) → i < n → same (variable_in file table i).name name ≡ true → variable_named name (variables_in file table n) ≡ Some i
  unfolding variable_named variables_in
  named_there u i h e =
      let d : Variable = record { name = []; width = 0 } in
      let q : 0 + i ≡ i = omega arith in
      let e₂ : (get_or (tabulate (variable_in file table) n) i d).name ≡ name = ap (λ (x : Variable). x.name) (get_d_tabulate (variable_in file table) n i d h) ∙ same_true _ name e in
      first_named name d (tabulate (variable_in file table) n) 0 i u (omega (arith, length-tabulate (variable_in file table) n)) e₂ ∙ ap Some q
