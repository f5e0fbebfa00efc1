-- How many lines name a variable, and how many lines are listed in all: each for at most four variables. Assumes nothing.
use Prim.Native.Nat.{ℕ, zero, suc, ◌+◌, ◌*◌, ◌≤◌, ◌<◌}
use mathlib.Core.Path.{◌≡◌, refl, ap}
use mathlib.Core.Bool.{Bool, true, false, ◌||◌}
use mathlib.Core.List.{List, [], ◌∷◌, map}
use native.Mathlib.Decide.{ℕ_discrete}
use native.Mathlib.Omega.{arith}
use lib.ListN.{length, length-append}
use borrow.Author.Tests.{eq-eqb, ne_eqb}
use Rattle.refusal.specs.Lists.{how_many}
use Rattle.refusal.proofs.ManyLaws.{many_cons, many_append}
use Rattle.constraint.specs.declared.Operand.{Operand}
use Rattle.constraint.specs.declared.Operand.TheVariants.{Absent, Var, Const}
use Rattle.constraint.specs.declared.Line.{Line}
use Rattle.constraint.specs.File.{File}
use Rattle.constraint.proofs.SoundLaws.{accepted_is_sound}
use Rattle.store.specs.Tables.{line_in, lines_in}
use Rattle.store.proofs.LineTableLaws.{lines_more}
use Rattle.index.specs.Select.{is_variable, names, naming}
use Rattle.index.specs.Index.{numbers_from, own_list, own_lists}
use Rattle.index.specs.Claims.{ListsAtMost}
use Rattle.index.specs.Internal.{one, sum_to}

sum-add : (g h : ℕ → ℕ) (n : ℕ) → sum_to (λ i. g i + h i) n ≡ sum_to g n + sum_to h n
unfolding sum_to
sum-add g h zero = refl
sum-add g h (suc n) = omega (arith, sum-add g h n)

sum_most : (g h : ℕ → ℕ) → ((i : ℕ) → g i ≤ h i) → (n : ℕ) → sum_to g n ≤ sum_to h n
unfolding sum_to
sum_most g h k zero = omega arith
sum_most g h k (suc n) = omega (arith, sum_most g h k n, k n)

-- ---- an operand is one variable at most
variable_none : (j n : ℕ) → n ≤ j → sum_to (λ i. one (is_variable i (Var j))) n ≡ 0
unfolding sum_to is_variable
variable_none j zero h = refl
variable_none j (suc n) h = rw (ne_eqb n j (omega arith)) (omega (arith, variable_none j n (omega arith)))

variable_most : (j n : ℕ) → sum_to (λ i. one (is_variable i (Var j))) n ≤ 1
unfolding sum_to is_variable
variable_most j zero = omega arith
variable_most j (suc n) = elim (ℕ_discrete n j) [
  | yes e ↦ rw (eq-eqb n j e) (omega (arith, variable_none j n (omega arith)))
  | no e ↦ rw (ne_eqb n j e) (omega (arith, variable_most j n))
]

sum_none : (n : ℕ) → sum_to (λ i. 0) n ≡ 0
unfolding sum_to
sum_none zero = refl
sum_none (suc n) = omega (arith, sum_none n)

operand_most : (o : Operand) (n : ℕ) → sum_to (λ i. one (is_variable i o)) n ≤ 1
unfolding is_variable
operand_most Absent n = omega (arith, sum_none n)
operand_most (Var j) n = variable_most j n
operand_most (Const w) n = omega (arith, sum_none n)

-- ---- a line names four at most
or_most : (a b : Bool) → one (a || b) ≤ one a + one b
or_most true b = omega arith
or_most false b = omega arith

names_most : (l : Line) (i : ℕ) → one (names i l) ≤ ((one (is_variable i l.output) + one (is_variable i l.operands.first)) + one (is_variable i l.operands.second)) + one (is_variable i l.operands.third)
unfolding names
names_most l i =
    let a = is_variable i l.output in
    let b = is_variable i l.operands.first in
    let c = is_variable i l.operands.second in
    let d = is_variable i l.operands.third in
    omega (arith, or_most (a || b || c) d, or_most (a || b) c, or_most a b)

line_most : (l : Line) (n : ℕ) → sum_to (λ i. one (names i l)) n ≤ 4
line_most l n =
    let a : ℕ → ℕ = λ i. one (is_variable i l.output) in
    let b : ℕ → ℕ = λ i. one (is_variable i l.operands.first) in
    let c : ℕ → ℕ = λ i. one (is_variable i l.operands.second) in
    let d : ℕ → ℕ = λ i. one (is_variable i l.operands.third) in
    omega (
      arith,
      sum_most (λ i. one (names i l)) (λ i. ((a i + b i) + c i) + d i) (names_most l) n,
      sum-add (λ i. (a i + b i) + c i) d n,
      sum-add (λ i. a i + b i) c n,
      sum-add a b n,
      operand_most l.output n,
      operand_most l.operands.first n,
      operand_most l.operands.second n,
      operand_most l.operands.third n,
    )

-- ---- how many lines name a variable, with one line more in the table
pub many_next : (heads bodies : List ℕ) (i k : ℕ) → how_many (names i) (lines_in heads bodies (k + 1)) ≡ how_many (names i) (lines_in heads bodies k) + one (names i (line_in heads bodies k))
unfolding how_many
many_next heads bodies i k = rw (lines_more heads bodies k) (many_append (names i) (lines_in heads bodies k) (line_in heads bodies k ∷ []))

-- ---- all lists together: by variables, then by lines
pub numbers_length : (n : ℕ) (g : Line → Bool) (ls : List Line) → length (numbers_from n (map g ls)) ≡ how_many g ls
unfolding numbers_from how_many
numbers_length n g [] = refl
numbers_length n g (l ∷ ls) = go (g l) refl (numbers_length (suc n) g ls)
  where
    go : (b : Bool) → g l ≡ b → length (numbers_from (suc n) (map g ls)) ≡ how_many g ls → length (numbers_from n (g l ∷ map g ls)) ≡ how_many g (l ∷ ls)
    go true e k = rw e (ap suc k)
    go false e k = rw e k

pub lists_sum : (f : File) (n : ℕ) → length (own_lists f n) ≡ sum_to (λ i. how_many (names i) f.lines) n
unfolding own_lists own_list naming sum_to
lists_sum f zero = refl
lists_sum f (suc n) = omega (arith, length-append (own_lists f n) (own_list f n), lists_sum f n, numbers_length 1 (names n) f.lines)

pub sum_alike : (g h : ℕ → ℕ) (n : ℕ) → ((i : ℕ) → i < n → g i ≡ h i) → sum_to g n ≡ sum_to h n
unfolding sum_to
sum_alike g h zero k = refl
sum_alike g h (suc n) k = omega (arith, sum_alike g h n (λ i p. k i (omega arith)), k n (omega arith))

pub sum_lines : (ls : List Line) (n : ℕ) → sum_to (λ i. how_many (names i) ls) n ≤ 4 * length ls
unfolding how_many
sum_lines [] n = omega (arith, sum_none n)
sum_lines (l ∷ ls) n =
    omega (
      arith,
      sum_alike (λ i. how_many (names i) (l ∷ ls)) (λ i. one (names i l) + how_many (names i) ls) n (λ i h. many_cons (names i) l ls),
      sum-add (λ i. one (names i l)) (λ i. how_many (names i) ls) n,
      line_most l n,
      sum_lines ls n,
    )

pub lists_at_most : ListsAtMost
lists_at_most constraint f read =
    let n = length f.variables in
    omega (arith, lists_sum f n, sum_lines f.lines n, (accepted_is_sound constraint f read).few_lines)
