-- What each operator gives.
use Rattle.std.specs.Prelude.{ℕ, ◌+◌, ◌-◌, ◌*◌, ◌/◌, ◌%◌, ◌^◌, Bool, true, false, cond, ◌&&◌, eqb}
use Rattle.std.specs.Prelude.{Option, None, Some}
use Rattle.arithmetic.specs.declared.Operator.{Operator}
use Rattle.arithmetic.specs.declared.Operator.TheVariants.{Combine, Not, Implies, Compare, Ite, Compute, Divide, Move, Trun, Extend, Conc, Extr}
use Rattle.arithmetic.specs.declared.Bitwise.TheVariants.{Or}
use Rattle.arithmetic.specs.declared.Word.{Word}
use Rattle.arithmetic.specs.Rules.{widths_hold, typed}
use Rattle.arithmetic.specs.Bits.{combined, inverted}
use Rattle.arithmetic.specs.Flags.{compared}
use Rattle.arithmetic.specs.Arithmetic.{computed, divided, shifted, extended}

-- a truth value as an i1
abbrev pub truth : Bool → ℕ
truth true = 1
truth false = 0

-- the result of width k, of operands that keep the type rule; missing where the divisor is zero
unfoldable pub value_of : Operator → ℕ → Word → Word → Word → Option ℕ
value_of (Combine o) k a b c = Some (combined o k a.value b.value)
value_of Not k a b c = Some (inverted k a.value)
value_of Implies k a b c = Some (combined Or k (inverted k a.value) b.value)
value_of (Compare o) k a b c = Some (truth (compared o a.width a.value b.value))
value_of Ite k a b c = Some (cond (eqb a.value 1) b.value c.value)
value_of (Compute o) k a b c = Some (computed o k a.value b.value)
value_of (Divide o) k a b c = cond (eqb b.value 0) None (Some (divided o k a.value b.value))
value_of (Move o) k a b c = Some (shifted o k a.value b.value)
value_of Trun k a b c = Some (a.value % 2 ^ k)
value_of (Extend o) k a b c = Some (extended o a.width k a.value)
value_of Conc k a b c = Some (a.value * 2 ^ b.width + b.value)
value_of Extr k a b c = Some (a.value / 2 ^ b.value % 2 ^ (c.value - b.value))

-- the meaning: missing where a width is none, where the operands break the type rule, and where a divisor is zero
unfoldable pub meaning : Operator → ℕ → Word → Word → Word → Option ℕ
meaning op k a b c = cond (widths_hold op k a b c && typed op k a b c) (value_of op k a b c) None
