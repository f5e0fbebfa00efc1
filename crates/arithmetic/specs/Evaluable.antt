-- The rule that an operator's operands keep, as plain facts: what an evaluation asks for.
use Rattle.std.specs.Prelude.{ℕ, ◌+◌, ◌-◌, ◌^◌, ◌≤◌, ◌<◌, ◌≡◌}
use Rattle.edition.specs.Edition.{max_width}
use Rattle.arithmetic.specs.declared.Operator.{Operator}
use Rattle.arithmetic.specs.declared.Operator.TheVariants.{Combine, Not, Implies, Compare, Ite, Compute, Divide, Move, Trun, Extend, Conc, Extr}
use Rattle.arithmetic.specs.declared.Word.{Word}
use Rattle.arithmetic.specs.Rules.{i1}

-- "widths 1 to 64"
pub record IsWidth (k : ℕ) : Type 0 where
  pub least : 1 ≤ k
  pub most : k ≤ max_width

-- a number of k bits
pub record NumberOfBits (k a : ℕ) : Type 0 where
  pub least : 1 ≤ k
  pub most : k ≤ max_width
  pub bound : a < 2 ^ k

-- two numbers of k bits
pub record NumbersOfBits (k a b : ℕ) : Type 0 where
  pub least : 1 ≤ k
  pub most : k ≤ max_width
  pub bound : a < 2 ^ k
  pub bound₂ : b < 2 ^ k

-- a choice between two numbers of k bits
pub record Choice (k a b c : ℕ) : Type 0 where
  pub test : a < 2
  pub bound : b < 2 ^ k
  pub bound₂ : c < 2 ^ k

-- a number of x bits, and k bits for more
pub record Wider (x k a : ℕ) : Type 0 where
  pub least : 1 ≤ x
  pub wider : x < k
  pub most : k ≤ max_width
  pub bound : a < 2 ^ x

-- numbers of x and of y bits, and k bits for both
pub record Joined (k x y a b : ℕ) : Type 0 where
  pub both : k ≡ x + y
  pub least : 1 ≤ x
  pub least₂ : 1 ≤ y
  pub most : k ≤ max_width
  pub bound : a < 2 ^ x
  pub bound₂ : b < 2 ^ y

-- the k places from n to m
pub record Cut (k n m : ℕ) : Type 0 where
  pub least : 1 ≤ k
  pub span : k ≡ m - n
  pub rising : n < m
  pub most : m ≤ max_width

-- operands that can be evaluated, with a result of width k
abbrev pub Evaluable : Operator → ℕ → Word → Word → Word → Type 0
Evaluable (Combine o) k a b c = NumbersOfBits k a.value b.value
Evaluable Not k a b c = NumberOfBits k a.value
Evaluable Implies k a b c = NumbersOfBits k a.value b.value
Evaluable (Compare o) k a b c = (k ≡ i1) × NumbersOfBits a.width a.value b.value
Evaluable Ite k a b c = Choice k a.value b.value c.value
Evaluable (Compute o) k a b c = NumbersOfBits k a.value b.value
Evaluable (Divide o) k a b c = NumbersOfBits k a.value b.value
Evaluable (Move o) k a b c = NumberOfBits k a.value
Evaluable Trun k a b c = IsWidth k
Evaluable (Extend o) k a b c = Wider a.width k a.value
Evaluable Conc k a b c = Joined k a.width b.width a.value b.value
Evaluable Extr k a b c = Cut k b.value c.value
