-- Every operator's result lies below 2 to its width, unless its divisor is zero. Assumes nothing.
use mathlib.Core.Path.{◌≡◌, refl}
use mathlib.Core.Bool.{Bool, true, false, cond}
use Rattle.std.specs.Prelude.{None, Some}
use Prim.Native.Nat.{ℕ, ◌+◌, ◌-◌, ◌*◌, ◌/◌, ◌%◌, ◌^◌, ◌<◌}
use native.Mathlib.Nat.{div-le_self, le_of_lt, lt_of_lt_of_le, mod-lt}
use native.Mathlib.Omega.{arith}
use lib.Arith.{digits_lt}
use lib.Dec.{eqb, lit<}
use lib.IntN.{◌-ℤ◌, ◌*ℤ◌}
use lib.Pow.{pow-add, pow_mono, pow_pos}
use lib.Signed.{shr_z}
use Rattle.refusal.proofs.ResultLaws.{never}
use Rattle.arithmetic.specs.declared.Operator.{Operator}
use Rattle.arithmetic.specs.declared.Operator.TheVariants.{Combine, Not, Implies, Compare, Ite, Compute, Divide, Move, Trun, Extend, Conc, Extr}
use Rattle.arithmetic.specs.declared.Bitwise.TheVariants.{Or}
use Rattle.arithmetic.specs.declared.Arithmetic.{Arithmetic}
use Rattle.arithmetic.specs.declared.Arithmetic.TheVariants.{Add, Sub, Mul}
use Rattle.arithmetic.specs.declared.Division.{Division}
use Rattle.arithmetic.specs.declared.Division.TheVariants.{Udiv, Sdiv, Urem, Srem}
use Rattle.arithmetic.specs.declared.Shift.{Shift}
use Rattle.arithmetic.specs.declared.Shift.TheVariants.{Shl, Ashr, Lshr}
use Rattle.arithmetic.specs.declared.Extension.{Extension}
use Rattle.arithmetic.specs.declared.Extension.TheVariants.{Sext, Zext}
use Rattle.arithmetic.specs.declared.Word.{Word}
use Rattle.arithmetic.specs.Rules.{widths_hold, operands_fit, i1, typed}
use Rattle.arithmetic.specs.Bits.{combined, inverted}
use Rattle.arithmetic.specs.Signed.{signed, quotient}
use Rattle.arithmetic.specs.Flags.{compared}
use Rattle.arithmetic.specs.Arithmetic.{computed, divided, shifted, extended}
use Rattle.arithmetic.specs.Meaning.{truth, value_of, meaning}
use Rattle.arithmetic.specs.Evaluable.{Evaluable, Wider, Joined}
use Rattle.arithmetic.specs.Claims.{zero_divisor, HasResult}
use Rattle.arithmetic.proofs.PlaceLaws.{combined_lt, inverted_lt}
use Rattle.arithmetic.proofs.ModuloLaws.{modulo_lt}
use Rattle.arithmetic.proofs.RuleLaws.{evaluable}

truth_lt : (t : Bool) → truth t < 2 ^ i1
truth_lt true = lit< tt
truth_lt false = lit< tt

choice_lt : (t : Bool) (k b c : ℕ) → b < 2 ^ k → c < 2 ^ k → cond t b c < 2 ^ k
choice_lt true k b c hb hc = hb
choice_lt false k b c hb hc = hc

computed_lt : (o : Arithmetic) (k a b : ℕ) → computed o k a b < 2 ^ k
unfolding computed
computed_lt Add k a b = mod-lt (a + b) (pow_pos k)
computed_lt Sub k a b = mod-lt (a + 2 ^ k - b) (pow_pos k)
computed_lt Mul k a b = mod-lt (a * b) (pow_pos k)

divided_lt : (o : Division) (k a b : ℕ) → a < 2 ^ k → divided o k a b < 2 ^ k
unfolding divided
divided_lt Udiv k a b h = omega (arith, div-le_self a b)
divided_lt Urem k a b h = omega arith
divided_lt Sdiv k a b h = modulo_lt k (quotient (signed k a) (signed k b))
divided_lt Srem k a b h = modulo_lt k (signed k a -ℤ quotient (signed k a) (signed k b) *ℤ signed k b)

shifted_lt : (o : Shift) (k a n : ℕ) → a < 2 ^ k → shifted o k a n < 2 ^ k
unfolding shifted
shifted_lt Shl k a n h = mod-lt (a * 2 ^ n) (pow_pos k)
shifted_lt Ashr k a n h = modulo_lt k (shr_z (signed k a) (2 ^ n))
shifted_lt Lshr k a n h = omega (arith, div-le_self a (2 ^ n))

extended_lt : (o : Extension) (x k a : ℕ) → Wider x k a → extended o x k a < 2 ^ k
unfolding extended
extended_lt Sext x k a g = modulo_lt k (signed x a)
extended_lt Zext x k a g = lt_of_lt_of_le g.bound (pow_mono (le_of_lt g.wider))

joined_lt : (k x y a b : ℕ) → Joined k x y a b → a * 2 ^ y + b < 2 ^ k
joined_lt k x y a b g = rw (g.both, pow-add 2 x y) (digits_lt g.bound g.bound₂)

-- the value of operands that keep their rule
value_within : (op : Operator) (k : ℕ) (a b c : Word) → Evaluable op k a b c → zero_divisor op b ≡ false → (r : ℕ) × (value_of op k a b c ≡ Some r) × (r < 2 ^ k)
unfolding zero_divisor value_of
value_within (Combine o) k a b c g z = (combined o k a.value b.value, refl, combined_lt o k a.value b.value g.bound g.bound₂)
value_within Not k a b c g z = (inverted k a.value, refl, inverted_lt k a.value g.bound)
value_within Implies k a b c g z =
    let n = inverted k a.value in
    (combined Or k n b.value, refl, combined_lt Or k n b.value (inverted_lt k a.value g.bound) g.bound₂)
value_within (Compare o) k a b c g z =
    let t = compared o a.width a.value b.value in
    (truth t, refl, rw g.0 (truth_lt t))
value_within Ite k a b c g z = (cond (eqb a.value 1) b.value c.value, refl, choice_lt (eqb a.value 1) k b.value c.value g.bound g.bound₂)
value_within (Compute o) k a b c g z = (computed o k a.value b.value, refl, computed_lt o k a.value b.value)
value_within (Divide o) k a b c g z = (divided o k a.value b.value, rw z, divided_lt o k a.value b.value g.bound)
value_within (Move o) k a b c g z = (shifted o k a.value b.value, refl, shifted_lt o k a.value b.value g.bound)
value_within Trun k a b c g z = (a.value % 2 ^ k, refl, mod-lt a.value (pow_pos k))
value_within (Extend o) k a b c g z = (extended o a.width k a.value, refl, extended_lt o a.width k a.value g)
value_within Conc k a b c g z = (a.value * 2 ^ b.width + b.value, refl, joined_lt k a.width b.width a.value b.value g)
value_within Extr k a b c g z =
    let x = a.value / 2 ^ b.value in
    (x % 2 ^ (c.value - b.value), refl, rw g.span (mod-lt x (pow_pos (c.value - b.value))))

value_missing : (op : Operator) (k : ℕ) (a b c : Word) → zero_divisor op b ≡ true → value_of op k a b c ≡ None
unfolding zero_divisor value_of
value_missing (Combine o) k a b c z = never (cc z)
value_missing Not k a b c z = never (cc z)
value_missing Implies k a b c z = never (cc z)
value_missing (Compare o) k a b c z = never (cc z)
value_missing Ite k a b c z = never (cc z)
value_missing (Compute o) k a b c z = never (cc z)
value_missing (Divide o) k a b c z = rw z
value_missing (Move o) k a b c z = never (cc z)
value_missing Trun k a b c z = never (cc z)
value_missing (Extend o) k a b c z = never (cc z)
value_missing Conc k a b c z = never (cc z)
value_missing Extr k a b c z = never (cc z)

-- where the widths and the rule hold, the meaning is the value
pub meaning_is : (op : Operator) (k : ℕ) (a b c : Word) → widths_hold op k a b c ≡ true → typed op k a b c ≡ true → meaning op k a b c ≡ value_of op k a b c
unfolding meaning
meaning_is op k a b c w t = rw (w, t)

pub results_fit : (op : Operator) (k : ℕ) (a b c : Word) → widths_hold op k a b c ≡ true → typed op k a b c ≡ true → operands_fit op a b c ≡ true → HasResult op k a b c
results_fit op k a b c w t v = record {
  missing = rw (meaning_is op k a b c w t) (value_missing op k a b c);
  within = rw (meaning_is op k a b c w t) (value_within op k a b c (evaluable op k a b c w t v));
}
