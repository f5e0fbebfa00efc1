-- What is claimed of the meanings, for every width.
use Rattle.std.specs.Prelude.{ℕ, suc, ◌-◌, ◌*◌, ◌≤◌, ◌<◌, ◌^◌, ◌≡◌, Bool, true, false, not, eqb, leb, ltb, ℤ, pos, negsuc, neg_ℤ, nat_abs, ◌≤ℤ◌, ◌<ℤ◌}
use Rattle.std.specs.Bool.{beq}
use Rattle.std.specs.Prelude.{None, Some}
use Rattle.std.specs.Int.Signed.{le_z, lt_z, non_neg}
use Rattle.arithmetic.specs.declared.Operator.{Operator}
use Rattle.arithmetic.specs.declared.Operator.TheVariants.{Combine, Not, Implies, Compare, Ite, Compute, Divide, Move, Trun, Extend, Conc, Extr}
use Rattle.arithmetic.specs.declared.Comparison.{Comparison}
use Rattle.arithmetic.specs.declared.Comparison.TheVariants.{Equal, NotEqual, Ule, Uge, Ult, Ugt, Sle, Sge, Slt, Sgt}
use Rattle.arithmetic.specs.declared.Arithmetic.TheVariants.{Add, Mul}
use Rattle.arithmetic.specs.declared.Division.{Division}
use Rattle.arithmetic.specs.declared.Division.TheVariants.{Udiv, Urem}
use Rattle.arithmetic.specs.declared.Shift.TheVariants.{Shl, Ashr, Lshr}
use Rattle.arithmetic.specs.declared.Word.{Word}
use Rattle.arithmetic.specs.Rules.{widths_hold, typed, operands_fit}
use Rattle.arithmetic.specs.Bits.{bit, places}
use Rattle.arithmetic.specs.Signed.{signed, modulo}
use Rattle.arithmetic.specs.Flags.{compared}
use Rattle.arithmetic.specs.Arithmetic.{computed, divided, shifted}
use Rattle.arithmetic.specs.Meaning.{meaning}

-- plain order: of the numbers, or of their signed readings at width k
unfoldable pub ordered : Comparison → ℕ → ℕ → ℕ → Bool
ordered Equal k a b = eqb a b
ordered NotEqual k a b = not (eqb a b)
ordered Ule k a b = leb a b
ordered Uge k a b = leb b a
ordered Ult k a b = ltb a b
ordered Ugt k a b = ltb b a
ordered Sle k a b = le_z (signed k a) (signed k b)
ordered Sge k a b = le_z (signed k b) (signed k a)
ordered Slt k a b = lt_z (signed k a) (signed k b)
ordered Sgt k a b = lt_z (signed k b) (signed k a)

-- "The comparisons, defined by subtraction flags, agree with plain unsigned and signed order at every width"
abbrev pub Orders : Type 0
Orders = (o : Comparison) (k a b : ℕ) → 1 ≤ k → a < 2 ^ k → b < 2 ^ k → compared o k a b ≡ ordered o k a b

-- whether an operator divides, and by zero
unfoldable pub zero_divisor : Operator → Word → Bool
zero_divisor (Combine o) b = false
zero_divisor Not b = false
zero_divisor Implies b = false
zero_divisor (Compare o) b = false
zero_divisor Ite b = false
zero_divisor (Compute o) b = false
zero_divisor (Divide o) b = eqb b.value 0
zero_divisor (Move o) b = false
zero_divisor Trun b = false
zero_divisor (Extend o) b = false
zero_divisor Conc b = false
zero_divisor Extr b = false

-- what operands that keep their rule come to: nothing where the divisor is zero, else a number of k bits
pub record HasResult (op : Operator) (k : ℕ) (a b c : Word) : Type 0 where
  pub missing : zero_divisor op b ≡ true → meaning op k a b c ≡ None
  pub within : zero_divisor op b ≡ false → (r : ℕ) × (meaning op k a b c ≡ Some r) × (r < 2 ^ k)

-- "Every operator's result lies below 2 to its width", unless its divisor is zero
abbrev pub ResultsFit : Type 0
ResultsFit =
    (op : Operator) (k : ℕ) (a b c : Word)
    → widths_hold op k a b c ≡ true
    → typed op k a b c ≡ true
    → operands_fit op a b c ≡ true
    → HasResult op k a b c

-- the signed reading of a number of k bits lies from -2^(k-1) to 2^(k-1)-1, and is that number modulo 2^k
pub record SignedRange (k a : ℕ) : Type 0 where
  pub from : neg_ℤ (pos (2 ^ (k - 1))) ≤ℤ signed k a
  pub below : signed k a <ℤ pos (2 ^ (k - 1))
  pub back : modulo k (signed k a) ≡ a

abbrev pub SignedReading : Type 0
SignedReading = (k a : ℕ) → 1 ≤ k → a < 2 ^ k → SignedRange k a

-- "Amounts at or above the width give 0, or for `>>a` the top bit everywhere"
pub record ShiftedOut (k a n : ℕ) : Type 0 where
  pub left : shifted Shl k a n ≡ 0
  pub right : shifted Lshr k a n ≡ 0
  pub top : shifted Ashr k a n ≡ places k (λ i. bit a (k - 1))

abbrev pub LargeAmounts : Type 0
LargeAmounts = (k a n : ℕ) → 1 ≤ k → a < 2 ^ k → k ≤ n → ShiftedOut k a n

-- q is the exact quotient of x by y, cut towards zero
pub record CutTowardsZero (x y q : ℤ) : Type 0 where
  -- |q| times |y| is at most |x|, and |q| + 1 times |y| is above it
  pub reaches : nat_abs q * nat_abs y ≤ nat_abs x
  pub next_exceeds : nat_abs x < suc (nat_abs q) * nat_abs y
  -- unless it is zero, q is positive where the signs agree and negative where they differ
  pub sign_of_quotient : (q ≡ pos 0 → ⊥) → non_neg q ≡ beq (non_neg x) (non_neg y)

-- -2^(k-1) by -1: of signed integers of k bits the one quotient that leaves their range
abbrev pub LeavesRange : ℕ → ℤ → ℤ → Type 0
LeavesRange k x y = (x ≡ neg_ℤ (pos (2 ^ (k - 1)))) × (y ≡ negsuc 0)

-- q is the quotient and r the remainder of a by b, all of k bits and read as integers by `reading`
pub record Divides (reading : ℕ → ℤ) (k a b q r : ℕ) : Type 0 where
  -- quotient times divisor plus remainder is the dividend, modulo 2^k
  pub adds_up : computed Add k (computed Mul k q b) r ≡ a
  -- the remainder is smaller in size than the divisor; one that is not zero has the dividend's sign
  pub remainder_small : nat_abs (reading r) < nat_abs (reading b)
  pub sign_of_remainder : (r ≡ 0 → ⊥) → non_neg (reading r) ≡ non_neg (reading a)
  -- the exact quotient, cut towards zero
  pub towards_zero : (LeavesRange k (reading a) (reading b) → ⊥) → CutTowardsZero (reading a) (reading b) (reading q)
  pub wraps : LeavesRange k (reading a) (reading b) → q ≡ 2 ^ (k - 1)

-- two operators give quotient and remainder for every divisor that is not zero
abbrev pub Divisions : (ℕ → ℕ → ℤ) → Division → Division → Type 0
Divisions reading quotient_of remainder_of =
    (k a b : ℕ)
    → 1 ≤ k
    → a < 2 ^ k
    → b < 2 ^ k
    → 0 < b
    → Divides (reading k) k a b (divided quotient_of k a b) (divided remainder_of k a b)

-- `/u` and `%u`, of the numbers themselves
abbrev pub UnsignedDivisions : Type 0
UnsignedDivisions = Divisions (λ k a. pos a) Udiv Urem
