-- What holds of all that a result accepts, step by step of a `do` block. Assumes nothing.
use Prim.Native.Nat.{ℕ}
use mathlib.Core.Path.{◌≡◌, refl, subst}
use mathlib.Core.Bool.{Bool, true, false, cond, ◌&&◌}
use Rattle.std.specs.Prelude.{Option, None, Some}
use native.Mathlib.Omega.{arith}
use Rattle.refusal.specs.declared.Refusal.{Refusal}
use Rattle.refusal.specs.Result.{Reply, Ok, Err, ensure, ensure_none, given, ◌>>=◌, ◌>>◌}

-- what has two different constructors is impossible: `never (cc e)`
pub never : {A : Type 0} → ◌≡◌ {A = ℕ} 0 1 → A
never e = let z : ⊥ = omega arith in absurd z

-- P holds of what r accepts
pub record Yields {A : Type 0} (P : A → Type 0) (r : Reply A) : Type 0 where
  pub holds : (a : A) → r ≡ Ok a → P a

pub yields_accepted : {A : Type 0} {P : A → Type 0} {a : A} → P a → Yields P (Ok a)
yields_accepted {P} {a} h = record { holds = λ b e. subst P (cc e) h }

pub yields_refused : {A : Type 0} {P : A → Type 0} {r : Refusal} → Yields P (Err r)
yields_refused = record { holds = λ b e. never (cc e) }

module _ {B : Type 0} {Q : B → Type 0} where
  -- one of two results
  pub yields_cond : (t : Bool) {x y : Reply B} → Yields Q x → Yields Q y → Yields Q (cond t x y)
  yields_cond true p q = p
  yields_cond false p q = q

  -- a step, then the next
  pub yields_bind : {A : Type 0} {P : A → Type 0} {m : Reply A} {next : A → Reply B} → Yields P m → ((a : A) → P a → Yields Q (next a)) → Yields Q (m >>= next)
  yields_bind {m = Ok a} h n = n a (h.holds a refl)
  yields_bind {m = Err r} h n = yields_refused

  -- a step without a value, then the next
  pub yields_then : (m : Reply (Unit {0})) {next : Reply B} → (m ≡ Ok tt → Yields Q next) → Yields Q (m >> next)
  yields_then (Ok tt) n = n refl
  yields_then (Err r) n = yields_refused

  -- a test, then the next
  pub yields_ensure : (t : Bool) (r : Refusal) {next : Reply B} → (t ≡ true → Yields Q next) → Yields Q (ensure t r >> next)
  yields_ensure true r n = n refl
  yields_ensure false r n = yields_refused

  -- two tests, then the next
  pub yields_both : (s t : Bool) (r : Refusal) {next : Reply B} → (s ≡ true → t ≡ true → Yields Q next) → Yields Q (ensure (s && t) r >> next)
  yields_both true t r n = yields_ensure t r (n refl)
  yields_both false t r n = yields_refused

  -- no fault, then the next
  pub yields_none : (o : Option ℕ) (r : ℕ → Refusal) {next : Reply B} → (o ≡ None → Yields Q next) → Yields Q (ensure_none o r >> next)
  yields_none None r n = n refl
  yields_none (Some i) r n = yields_refused

  -- a value, then the next
  pub yields_given : {A : Type 0} (o : Option A) (r : Refusal) {next : A → Reply B} → ((a : A) → o ≡ Some a → Yields Q (next a)) → Yields Q (given o r >>= next)
  yields_given (Some a) r n = n a refl
  yields_given None r n = yields_refused

-- what follows from what holds of all that a result accepts
pub yields_also : {A : Type 0} {P Q : A → Type 0} {r : Reply A} → ((a : A) → P a → Q a) → Yields P r → Yields Q r
yields_also f y = record { holds = λ a e. f a (y.holds a e) }

-- of what a result accepts it holds that the result accepts it
pub yields_itself : {A : Type 0} (r : Reply A) → Yields (λ a. r ≡ Ok a) r
yields_itself r = record { holds = λ a e. e }

-- where a step and the next are accepted, each is
pub bind_accepted : {A B : Type 0} (m : Reply A) (next : A → Reply B) (b : B) → (m >>= next) ≡ Ok b → (a : A) × (m ≡ Ok a) × (next a ≡ Ok b)
bind_accepted (Ok a) next b e = (a, refl, e)
bind_accepted (Err r) next b e = never (cc e)

pub ensure_accepted : {B : Type 0} (t : Bool) (r : Refusal) (next : Reply B) (b : B) → (ensure t r >> next) ≡ Ok b → (t ≡ true) × (next ≡ Ok b)
ensure_accepted true r next b e = (refl, e)
ensure_accepted false r next b e = never (cc e)

-- a step without a value, then the next
pub then_accepted : {B : Type 0} (m : Reply (Unit {0})) (next : Reply B) (b : B) → (m >> next) ≡ Ok b → (m ≡ Ok tt) × (next ≡ Ok b)
then_accepted (Ok tt) next b e = (refl, e)
then_accepted (Err r) next b e = never (cc e)

-- a test, and no fault, with nothing behind them
pub test_accepted : (t : Bool) (r : Refusal) → ensure t r ≡ Ok tt → t ≡ true
test_accepted true r e = refl
test_accepted false r e = never (cc e)

pub none_accepted : (o : Option ℕ) (r : ℕ → Refusal) → ensure_none o r ≡ Ok tt → o ≡ None
none_accepted None r e = refl
none_accepted (Some i) r e = never (cc e)

pub given_accepted : {A : Type 0} (o : Option A) (r : Refusal) (a : A) → given o r ≡ Ok a → o ≡ Some a
given_accepted (Some b) r a e = let z : b ≡ a = cc e in rw z
given_accepted None r a e = never (cc e)

-- two steps as one
pub bind_through : {A B C : Type 0} (f : A → Reply B) (g : B → Reply C) (h : A → Reply C) → ((a : A) → h a ≡ (f a >>= g)) → (m : Reply A) → (m >>= h) ≡ (m >>= f >>= g)
bind_through f g h p (Ok a) = p a
bind_through f g h p (Err r) = refl
