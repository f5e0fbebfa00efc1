-- The flags of a + (not b) + 1 at width k, and the comparisons that are read off them.
use Rattle.std.specs.Prelude.{ℕ, ◌+◌, ◌-◌, ◌%◌, ◌^◌, Bool, not, ◌&&◌, ◌||◌, leb, eqb}
use Rattle.std.specs.Bool.{xor, beq}
use Rattle.arithmetic.specs.declared.Comparison.{Comparison}
use Rattle.arithmetic.specs.declared.Comparison.TheVariants.{Equal, NotEqual, Ule, Uge, Ult, Ugt, Sle, Sge, Slt, Sgt}
use Rattle.arithmetic.specs.Bits.{inverted}

-- the sum, with its carry
unfoldable pub sum : ℕ → ℕ → ℕ → ℕ
sum k a b = a + inverted k b + 1

-- C: "the carry out of the top bit"
unfoldable pub flag_c : ℕ → ℕ → ℕ → Bool
flag_c k a b = leb (2 ^ k) (sum k a b)

-- the carry into the top bit: out of the sum of the bits below it. "At i1 .. the added 1"
unfoldable pub carry_in : ℕ → ℕ → ℕ → Bool
carry_in k a b = leb (2 ^ (k - 1)) (a % 2 ^ (k - 1) + inverted k b % 2 ^ (k - 1) + 1)

-- V: "the carry into the top bit xor C"
unfoldable pub flag_v : ℕ → ℕ → ℕ → Bool
flag_v k a b = xor (carry_in k a b) (flag_c k a b)

-- N: "the top bit"
unfoldable pub flag_n : ℕ → ℕ → ℕ → Bool
flag_n k a b = leb (2 ^ (k - 1)) (sum k a b % 2 ^ k)

-- Z: "all zero"
unfoldable pub flag_z : ℕ → ℕ → ℕ → Bool
flag_z k a b = eqb (sum k a b % 2 ^ k) 0

-- the comparisons: 01's formulas, and Z for `=`
unfoldable pub compared : Comparison → ℕ → ℕ → ℕ → Bool
compared Equal k a b = flag_z k a b
compared NotEqual k a b = not (flag_z k a b)
compared Ule k a b = not (flag_c k a b) || flag_z k a b
compared Uge k a b = flag_c k a b
compared Ult k a b = not (flag_c k a b)
compared Ugt k a b = flag_c k a b && not (flag_z k a b)
compared Sle k a b = flag_z k a b || xor (flag_n k a b) (flag_v k a b)
compared Sge k a b = beq (flag_n k a b) (flag_v k a b)
compared Slt k a b = xor (flag_n k a b) (flag_v k a b)
compared Sgt k a b = not (flag_z k a b) && beq (flag_n k a b) (flag_v k a b)
