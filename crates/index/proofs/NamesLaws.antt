-- The variables that a line in the table names, by its heads and bodies; each once. Assumes nothing.
use Prim.Native.Nat.{ℕ, ◌+◌, ◌<◌}
use mathlib.Core.Path.{◌≡◌, refl, sym, ap, ◌∙◌}
use mathlib.Core.Bool.{Bool, true, false, cond, ◌&&◌, ◌||◌}
use mathlib.Core.List.{List}
use native.Mathlib.Omega.{arith}
use lib.Dec.{eqb, leb}
use borrow.Author.Tests.{eqb-true, eqb-false, ne_eqb, leb-true, leb-false}
use Rattle.edition.specs.Edition.{max_variables}
use Rattle.refusal.proofs.ResultLaws.{never}
use Rattle.store.specs.Tables.{variable_mark, operand_of, head_at, body_at, operand_in, line_in}
use Rattle.store.proofs.LineTableLaws.{operand_absent, operand_variable, operand_constant}
use Rattle.index.specs.Select.{is_variable, names}
use Rattle.index.specs.Internal.{one}

-- ---- the variable at a slot
no_variable : (i head body : ℕ) (z : Bool) → leb variable_mark head ≡ false → eqb head 0 ≡ z → is_variable i (operand_of head body) ≡ false
unfolding is_variable
no_variable i head body true e q = rw (operand_absent head body (eqb-true head 0 q))
no_variable i head body false e q = let n = eqb-false head 0 q in rw (operand_constant head body (omega arith) (leb-false variable_mark head e))

module _ (heads bodies : List ℕ) (k slot i : ℕ) where
  pub variable_there : leb variable_mark (head_at heads k slot) ≡ true → eqb i (body_at bodies k slot) ≡ is_variable i (operand_in heads bodies k slot)
  unfolding operand_in is_variable
  variable_there e = rw (operand_variable (head_at heads k slot) (body_at bodies k slot) (leb-true variable_mark (head_at heads k slot) e))

  pub variable_nowhere : leb variable_mark (head_at heads k slot) ≡ false → i < max_variables → eqb i max_variables ≡ is_variable i (operand_in heads bodies k slot)
  unfolding operand_in
  variable_nowhere e h = ne_eqb i max_variables (omega arith) ∙ sym (no_variable i (head_at heads k slot) (body_at bodies k slot) _ e refl)

  -- both tests at once
  named_by : (t : Bool) → leb variable_mark (head_at heads k slot) ≡ t → (t && eqb i (body_at bodies k slot)) ≡ is_variable i (operand_in heads bodies k slot)
  unfolding operand_in
  named_by true e = variable_there e
  named_by false e = sym (no_variable i (head_at heads k slot) (body_at bodies k slot) _ e refl)

  pub named_at : (leb variable_mark (head_at heads k slot) && eqb i (body_at bodies k slot)) ≡ is_variable i (operand_in heads bodies k slot)
  named_at = named_by _ refl

-- a line names a variable by one of four tests
pub names_by : (i : ℕ) (heads bodies : List ℕ) (k : ℕ) {a b c d : Bool} → a ≡ is_variable i (operand_in heads bodies k 0) → b ≡ is_variable i (operand_in heads bodies k 1) → c ≡ is_variable i (operand_in heads bodies k 2) → d ≡ is_variable i (operand_in heads bodies k 3) → (a || b || c || d) ≡ names i (line_in heads bodies k)
unfolding names line_in
names_by i heads bodies k p q r s = rw (p, q, r, s)

-- ---- each variable once
-- j is left out where it is named already
new : (i j : ℕ) (old named hit : Bool) → i < max_variables → eqb i j ≡ hit → (i ≡ j → old ≡ named) → one old + one (eqb i (cond named max_variables j)) ≡ one (old || eqb i j)
new i j true true hit h e k = rw (ne_eqb i max_variables (omega arith))
new i j true false true h e k = never (cc (k (eqb-true i j e)))
new i j true false false h e k = rw e
new i j false true true h e k = never (cc (k (eqb-true i j e)))
new i j false true false h e k = rw (ne_eqb i max_variables (omega arith), e)
new i j false false hit h e k = rw e (omega arith)

module _ (i a b c d : ℕ) (h : i < max_variables) where
  once : one (eqb i a) + one (eqb i (cond (eqb b a) max_variables b)) + one (eqb i (cond (eqb c a || eqb c b) max_variables c)) + one (eqb i (cond (eqb d a || eqb d b || eqb d c) max_variables d)) ≡ one (eqb i a || eqb i b || eqb i c || eqb i d)
  once =
      omega (
        arith,
        new i b (eqb i a) (eqb b a) _ h refl (λ e. rw e),
        new i c (eqb i a || eqb i b) (eqb c a || eqb c b) _ h refl (λ e. rw e),
        new i d (eqb i a || eqb i b || eqb i c) (eqb d a || eqb d b || eqb d c) _ h refl (λ e. rw e),
      )

  pub named_once : (heads bodies : List ℕ) (k : ℕ)
      → eqb i a ≡ is_variable i (operand_in heads bodies k 0)
      → eqb i b ≡ is_variable i (operand_in heads bodies k 1)
      → eqb i c ≡ is_variable i (operand_in heads bodies k 2)
      → eqb i d ≡ is_variable i (operand_in heads bodies k 3)
      → one (eqb i a) + one (eqb i (cond (eqb b a) max_variables b)) + one (eqb i (cond (eqb c a || eqb c b) max_variables c)) + one (eqb i (cond (eqb d a || eqb d b || eqb d c) max_variables d)) ≡ one (names i (line_in heads bodies k))
  named_once heads bodies k p q r s = once ∙ ap one (names_by i heads bodies k p q r s)
