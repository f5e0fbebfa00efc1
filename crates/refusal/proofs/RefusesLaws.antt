-- What holds of a result's refusal, step by step of a `do` block. Assumes nothing.
use Prim.Native.Nat.{ℕ}
use mathlib.Core.Path.{◌≡◌, refl, subst}
use mathlib.Core.Bool.{Bool, true, false, cond}
use Rattle.std.specs.Prelude.{Option, None, Some}
use Rattle.refusal.specs.declared.Refusal.{Refusal}
use Rattle.refusal.specs.Result.{Reply, Ok, Err, ensure, ensure_none, given, ◌>>=◌, ◌>>◌}
use Rattle.refusal.proofs.ResultLaws.{never}

-- P holds of the refusal of r, where r is refused
pub record Refuses {A : Type 0} (P : Refusal → Type 0) (r : Reply A) : Type 0 where
  pub holds : (x : Refusal) → r ≡ Err x → P x

module _ {P : Refusal → Type 0} {B : Type 0} where
  -- an accepted result, and a refused one
  pub refuses_accepted : {b : B} → Refuses P (Ok b)
  refuses_accepted = record { holds = λ x e. never (cc e) }

  pub refuses_refused : {r : Refusal} → P r → Refuses {A = B} P (Err r)
  refuses_refused {r} h = record { holds = λ x e. subst P (cc e) h }

  -- one of two results
  pub refuses_cond : (t : Bool) {x y : Reply B} → Refuses P x → Refuses P y → Refuses P (cond t x y)
  refuses_cond true p q = p
  refuses_cond false p q = q

  -- a step, then the next
  pub refuses_bind : {A : Type 0} {m : Reply A} {next : A → Reply B} → Refuses P m → ((a : A) → Refuses P (next a)) → Refuses P (m >>= next)
  refuses_bind {m = Ok a} h n = n a
  refuses_bind {m = Err r} h n = refuses_refused (h.holds r refl)

  pub refuses_then : {m : Reply (Unit {0})} {next : Reply B} → Refuses P m → Refuses P next → Refuses P (m >> next)
  refuses_then {m = Ok tt} h n = n
  refuses_then {m = Err r} h n = refuses_refused (h.holds r refl)

  -- a test, then the next
  pub refuses_ensure : (t : Bool) (r : Refusal) {next : Reply B} → P r → Refuses P next → Refuses P (ensure t r >> next)
  refuses_ensure true r h n = n
  refuses_ensure false r h n = refuses_refused h

  -- a value; and a value, then the next
  pub refuses_value : (o : Option B) (r : Refusal) → P r → Refuses P (given o r)
  refuses_value (Some b) r h = refuses_accepted
  refuses_value None r h = refuses_refused h

  pub refuses_given : {A : Type 0} (o : Option A) (r : Refusal) {next : A → Reply B} → P r → ((a : A) → Refuses P (next a)) → Refuses P (given o r >>= next)
  refuses_given (Some a) r h n = n a
  refuses_given None r h n = refuses_refused h

-- the last step: a test, and no fault
module _ {P : Refusal → Type 0} where
  pub refuses_test : (t : Bool) (r : Refusal) → P r → Refuses P (ensure t r)
  refuses_test true r h = refuses_accepted
  refuses_test false r h = refuses_refused h

  pub refuses_none : (o : Option ℕ) (r : ℕ → Refusal) → ((i : ℕ) → o ≡ Some i → P (r i)) → Refuses P (ensure_none o r)
  refuses_none None r h = refuses_accepted
  refuses_none (Some i) r h = refuses_refused (h i refl)

-- what follows from what holds of the refusal
pub refuses_also : {P Q : Refusal → Type 0} {A : Type 0} {r : Reply A} → ((x : Refusal) → P x → Q x) → Refuses P r → Refuses Q r
refuses_also f h = record { holds = λ x e. f x (h.holds x e) }
