-- What holds of a result's refusal and of what it accepts, step by step of a `do` block. Assumes nothing.
use mathlib.Core.Path.{refl}
use Rattle.refusal.specs.declared.Refusal.{Refusal}
use Rattle.refusal.specs.Result.{Reply, Ok, Err, ◌>>=◌}
use Rattle.refusal.proofs.ResultLaws.{Yields, yields_accepted, yields_refused}
use Rattle.refusal.proofs.RefusesLaws.{Refuses, refuses_accepted, refuses_refused}

-- P holds of the refusal of r, where r is refused, and Q of what r accepts
pub record Ends {A : Type 0} (P : Refusal → Type 0) (Q : A → Type 0) (r : Reply A) : Type 0 where
  pub refuses : Refuses P r
  pub yields : Yields Q r

module _ {P : Refusal → Type 0} {B : Type 0} {Q : B → Type 0} where
  -- an accepted result, and a refused one
  pub ends_accepted : {b : B} → Q b → Ends P Q (Ok b)
  ends_accepted h = record { refuses = refuses_accepted; yields = yields_accepted h }

  pub ends_refused : {r : Refusal} → P r → Ends P Q (Err r)
  ends_refused h = record { refuses = refuses_refused h; yields = yields_refused }

  -- what holds of whatever is accepted
  pub ends_always : {r : Reply B} → Refuses P r → ((b : B) → Q b) → Ends P Q r
  ends_always h q = record { refuses = h; yields = record { holds = λ b e. q b } }

  -- a step, then the next
  pub ends_bind : {A : Type 0} {R : A → Type 0} {m : Reply A} {next : A → Reply B} → Ends P R m → ((a : A) → R a → Ends P Q (next a)) → Ends P Q (m >>= next)
  ends_bind {m = Ok a} h n = n a (h.yields.holds a refl)
  ends_bind {m = Err r} h n = ends_refused (h.refuses.holds r refl)

-- a step, then the next, of which the refusal alone is asked
pub refuses_after : {P : Refusal → Type 0} {A B : Type 0} {R : A → Type 0} {m : Reply A} {next : A → Reply B} → Ends P R m → ((a : A) → R a → Refuses P (next a)) → Refuses P (m >>= next)
refuses_after {m = Ok a} h n = n a (h.yields.holds a refl)
refuses_after {m = Err r} h n = refuses_refused (h.refuses.holds r refl)
