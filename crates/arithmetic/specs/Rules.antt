-- The type rules of the operators: Booleans on widths, with nothing of meanings.
use Rattle.std.specs.Prelude.{ℕ, ◌+◌, ◌-◌, ◌^◌, Bool, ◌&&◌, List, [], ◌∷◌, eqb, ltb, leb, take}
use Rattle.edition.specs.Edition.{max_width, is_width}
use Rattle.refusal.specs.Lists.{every}
use Rattle.arithmetic.specs.declared.Operator.{Operator}
use Rattle.arithmetic.specs.declared.Operator.TheVariants.{Combine, Not, Implies, Compare, Ite, Compute, Divide, Move, Trun, Extend, Conc, Extr}
use Rattle.arithmetic.specs.declared.Word.{Word}

-- the number of operands that an operator takes
unfoldable pub arity : Operator → ℕ
arity (Combine o) = 2
arity Not = 1
arity Implies = 2
arity (Compare o) = 2
arity Ite = 3
arity (Compute o) = 2
arity (Divide o) = 2
arity (Move o) = 2
arity Trun = 1
arity (Extend o) = 1
arity Conc = 2
arity Extr = 3

-- the most operands that one takes
abbrev pub max_operands : ℕ
max_operands = 3

-- the operands that an operator takes of three; it does not look at the others
abbrev pub operands_taken : Operator → Word → Word → Word → List Word
operands_taken op a b c = take (arity op) (a ∷ b ∷ c ∷ [])

-- the width of the result and of each operand is a width
unfoldable pub widths_hold : Operator → ℕ → Word → Word → Word → Bool
widths_hold op k a b c = is_width k && every (λ w. is_width w.width) (operands_taken op a b c)

-- "All values are whole numbers from 0 to 2^K - 1"
unfoldable pub fits : Word → Bool
fits w = ltb w.value (2 ^ w.width)

-- the value of each operand fits
unfoldable pub operands_fit : Operator → Word → Word → Word → Bool
operands_fit op a b c = every fits (operands_taken op a b c)

-- the widths of the types i1 and i8
abbrev pub i1 : ℕ
i1 = 1

abbrev pub i8 : ℕ
i8 = 8

-- a word is of width k
abbrev pub is : ℕ → Word → Bool
is k w = eqb w.width k

-- "x+y at most 64", and the result as wide as both
unfoldable pub joins : ℕ → ℕ → ℕ → Bool
joins k x y = eqb k (x + y) && leb k max_width

-- "0 <= n < m <= width of x", and the result m - n wide
unfoldable pub cuts : ℕ → ℕ → ℕ → ℕ → Bool
cuts k x n m = ltb n m && leb m x && eqb k (m - n)

-- the type rule of an operator, for a result of width k and the operands a, b, c. Only `extr` looks at values
unfoldable pub typed : Operator → ℕ → Word → Word → Word → Bool
typed (Combine o) k a b c = is k a && is k b
typed Not k a b c = is k a
typed Implies k a b c = eqb k i1 && is i1 a && is i1 b
typed (Compare o) k a b c = eqb k i1 && is b.width a
typed Ite k a b c = is i1 a && is k b && is k c
typed (Compute o) k a b c = is k a && is k b
typed (Divide o) k a b c = is k a && is k b
typed (Move o) k a b c = is k a && is i8 b
typed Trun k a b c = ltb k a.width
typed (Extend o) k a b c = ltb a.width k
typed Conc k a b c = joins k a.width b.width
typed Extr k a b c = is i8 b && is i8 c && cuts k a.width b.value c.value
