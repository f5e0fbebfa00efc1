-- The rules of an operator see the widths of its operands; only `extr` sees values. Assumes nothing.
use mathlib.Core.Path.{◌≡◌, refl}
use mathlib.Core.Bool.{Bool}
use Prim.Native.Nat.{ℕ}
use Rattle.edition.specs.Edition.{is_width}
use Rattle.arithmetic.specs.declared.Operator.{Operator}
use Rattle.arithmetic.specs.declared.Operator.TheVariants.{Combine, Not, Implies, Compare, Ite, Compute, Divide, Move, Trun, Extend, Conc, Extr}
use Rattle.arithmetic.specs.declared.Word.{Word}
use Rattle.arithmetic.specs.Rules.{widths_hold, typed}
use Rattle.arithmetic.proofs.RuleLaws.{taken_is}

module _ (a b c a' b' c' : Word) (p : a.width ≡ a'.width) (q : b.width ≡ b'.width) (r : c.width ≡ c'.width) where
  pub widths_alike : (op : Operator) (k : ℕ) → widths_hold op k a b c ≡ widths_hold op k a' b' c'
  unfolding widths_hold
  widths_alike op k =
      let test : Word → Bool = λ w. is_width w.width in
      rw (taken_is op test a b c, taken_is op test a' b' c', p, q, r)

  pub typed_alike : (op : Operator) (k : ℕ) → (op ≡ Extr → (b.value ≡ b'.value) × (c.value ≡ c'.value)) → typed op k a b c ≡ typed op k a' b' c'
  unfolding typed
  typed_alike (Combine o) k v = rw (p, q)
  typed_alike Not k v = rw p
  typed_alike Implies k v = rw (p, q)
  typed_alike (Compare o) k v = rw (p, q)
  typed_alike Ite k v = rw (p, q, r)
  typed_alike (Compute o) k v = rw (p, q)
  typed_alike (Divide o) k v = rw (p, q)
  typed_alike (Move o) k v = rw (p, q)
  typed_alike Trun k v = rw p
  typed_alike (Extend o) k v = rw p
  typed_alike Conc k v = rw (p, q)
  typed_alike Extr k v = let e = v refl in rw (p, q, r, e.0, e.1)
