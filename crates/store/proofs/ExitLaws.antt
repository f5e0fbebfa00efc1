-- What a `map_err` to a refusal gives, and what the exit of a `?` returns. Assumes nothing.
use mathlib.Core.Path.{◌≡◌, refl}
use Rattle.std.specs.Prelude.{Result, Ok, Err, MatchResult}
use Rattle.std.specs.Result.{IsErr, IsErrAnd}
use Rattle.refusal.specs.declared.Refusal.{Refusal}
use Rattle.refusal.specs.Result.{Reply, refused_as}
use Rattle.refusal.proofs.ResultLaws.{never}

-- s is r with its error, if it has one, made a refusal by what satisfies P
module _ {A E : Type 0} {P : E → Refusal → Type 0} (s : Reply A) (r : Result A E) (refuse : E → Refusal) (m : MatchResult r (λ x. s ≡ Ok x) (λ e. IsErrAnd s (P e))) (said : (e : E) (y : Refusal) → P e y → y ≡ refuse e) where
  pub mapped : s ≡ refused_as refuse r
  mapped = go s r m
    where
      go : (s : Reply A) (r : Result A E) → MatchResult r (λ x. s ≡ Ok x) (λ e. IsErrAnd s (P e)) → s ≡ refused_as refuse r
      go s (Ok x) m = m
      go (Ok a) (Err e) m = absurd m
      go (Err y) (Err e) m = rw (said e y m)

  pub mapped_ok : (a : A) → s ≡ Ok a → r ≡ Ok a
  mapped_ok a e = go r (rw e at mapped)
    where
      go : (r : Result A E) → Ok a ≡ refused_as refuse r → r ≡ Ok a
      go (Ok x) q = cc q
      go (Err x) q = never (cc q)

  pub mapped_err : (y : Refusal) → s ≡ Err y → (e : E) × (r ≡ Err e) × (y ≡ refuse e)
  mapped_err y e = go r (rw e at mapped)
    where
      go : (r : Result A E) → Err y ≡ refused_as refuse r → (e : E) × (r ≡ Err e) × (y ≡ refuse e)
      go (Ok x) q = never (cc q)
      go (Err x) q = (x, refl, cc q)

-- the exit of a `?`
pub exit : {A E : Type 0} (r : Result A E) (e : E) → IsErr r × IsErrAnd r (λ y. y ≡ e) → r ≡ Err e
exit (Ok a) e h = absurd h.1
exit (Err y) e h = rw h.1
