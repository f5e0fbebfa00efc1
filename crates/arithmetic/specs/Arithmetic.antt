-- Arithmetic on numbers of k bits, shifts and extensions.
use Rattle.std.specs.Prelude.{ℕ, ◌+◌, ◌-◌, ◌*◌, ◌/◌, ◌%◌, ◌^◌, ◌-ℤ◌, ◌*ℤ◌}
use Rattle.std.specs.Int.Signed.{shr_z}
use Rattle.arithmetic.specs.declared.Arithmetic.{Arithmetic}
use Rattle.arithmetic.specs.declared.Arithmetic.TheVariants.{Add, Sub, Mul}
use Rattle.arithmetic.specs.declared.Division.{Division}
use Rattle.arithmetic.specs.declared.Division.TheVariants.{Udiv, Sdiv, Urem, Srem}
use Rattle.arithmetic.specs.declared.Shift.{Shift}
use Rattle.arithmetic.specs.declared.Shift.TheVariants.{Shl, Ashr, Lshr}
use Rattle.arithmetic.specs.declared.Extension.{Extension}
use Rattle.arithmetic.specs.declared.Extension.TheVariants.{Sext, Zext}
use Rattle.arithmetic.specs.Signed.{signed, modulo, quotient}

-- "arithmetic modulo 2^K"
unfoldable pub computed : Arithmetic → ℕ → ℕ → ℕ → ℕ
computed Add k a b = (a + b) % 2 ^ k
computed Sub k a b = (a + 2 ^ k - b) % 2 ^ k
computed Mul k a b = a * b % 2 ^ k

-- quotients and remainders, by a divisor that is not zero. A remainder is a less the quotient times b
unfoldable pub divided : Division → ℕ → ℕ → ℕ → ℕ
divided Udiv k a b = a / b
divided Urem k a b = a - a / b * b
divided Sdiv k a b = modulo k (quotient (signed k a) (signed k b))
divided Srem k a b = modulo k (signed k a -ℤ quotient (signed k a) (signed k b) *ℤ signed k b)

-- shifts by n places; `>>a` is the signed reading divided by 2^n, rounded down
unfoldable pub shifted : Shift → ℕ → ℕ → ℕ → ℕ
shifted Shl k a n = a * 2 ^ n % 2 ^ k
shifted Ashr k a n = modulo k (shr_z (signed k a) (2 ^ n))
shifted Lshr k a n = a / 2 ^ n

-- from x bits to k bits: the same signed reading, or the same number
unfoldable pub extended : Extension → ℕ → ℕ → ℕ → ℕ
extended Sext x k a = modulo k (signed x a)
extended Zext x k a = a
