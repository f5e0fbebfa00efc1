-- What the tests of the type rules say as plain facts, and how programs compute them. Assumes nothing.
use mathlib.Core.Path.{◌≡◌, refl, sym, ◌∙◌, subst}
use mathlib.Core.Bool.{Bool, true, ◌&&◌, ◌||◌}
use mathlib.Core.List.{List, [], ◌∷◌}
use Prim.Native.Nat.{ℕ, ◌+◌, ◌-◌, ◌/◌, ◌^◌, ◌≤◌, ◌<◌}
use native.Mathlib.Decide.{dec_lt, ℕ_discrete}
use native.Mathlib.Nat.{div-eq_of_lt, div-lt_iff_lt-mul, lt_of_lt_of_le}
use native.Mathlib.Omega.{arith}
use lib.Dec.{eqb, leb, ltb}
use lib.Pow.{pow_mono, pow_pos}
use borrow.Author.Tests.{eqb-true, leb-true, ltb-true, eq-eqb, ne_eqb, lt-ltb, le-ltb}
use Rattle.edition.specs.Edition.{max_width, is_width}
use Rattle.edition.specs.Word.{word_bits}
use Rattle.refusal.specs.Lists.{every}
use Rattle.refusal.proofs.BoolLaws.{and_true, and_one, and_two, and_three, or_true}
use Rattle.arithmetic.specs.declared.Operator.{Operator}
use Rattle.arithmetic.specs.declared.Operator.TheVariants.{Combine, Not, Implies, Compare, Ite, Compute, Divide, Move, Trun, Extend, Conc, Extr}
use Rattle.arithmetic.specs.declared.Bitwise.{Bitwise}
use Rattle.arithmetic.specs.declared.Word.{Word}
use Rattle.arithmetic.specs.Rules.{arity, max_operands, operands_taken, widths_hold, fits, operands_fit, is, joins, cuts, typed, i1, i8}
use Rattle.arithmetic.specs.Evaluable.{IsWidth, NumbersOfBits, Evaluable}

-- each of a list's tests
abbrev AllPass : {A : Type 0} → (A → Bool) → List A → Type 0
AllPass test [] = Unit {0}
AllPass test (x ∷ xs) = (test x ≡ true) × AllPass test xs

each : {A : Type 0} (test : A → Bool) (xs : List A) → every test xs ≡ true → AllPass test xs
unfolding every
each test [] e = tt
each test (x ∷ xs) e = let p = and_true (test x) (every test xs) e in (p.0, each test xs p.1)

-- a width's test, and a value's, both ways
pub width_is : (k : ℕ) → is_width k ≡ true → IsWidth k
unfolding is_width
width_is k e = let p = and_true (leb 1 k) (leb k max_width) e in record { least = leb-true 1 k p.0; most = leb-true k max_width p.1 }

pub fits_test : (k v : ℕ) → fits (record { width = k; value = v }) ≡ ltb v (2 ^ k)
unfolding fits
fits_test k v = refl

pub fits_is : (w : Word) → fits w ≡ true → w.value < 2 ^ w.width
fits_is w e = ltb-true w.value (2 ^ w.width) (sym (fits_test w.width w.value) ∙ e)

pub is_fits : (w : Word) → w.value < 2 ^ w.width → fits w ≡ true
is_fits w h = fits_test w.width w.value ∙ lt-ltb w.value (2 ^ w.width) h

-- of a word at the width that a test gave it
fits_at_lem : (k : ℕ) (w : Word) → is k w ≡ true → fits w ≡ true → w.value < 2 ^ k
fits_at_lem k w e f = subst (λ (n : ℕ). w.value < 2 ^ n) (eqb-true w.width k e) (fits_is w f)

-- two operands as wide as the result
alike : (k : ℕ) (a b : Word) → IsWidth k → (is k a ≡ true) × (is k b ≡ true) → AllPass fits (a ∷ b ∷ []) → NumbersOfBits k a.value b.value
alike k a b w t v = record { least = w.least; most = w.most; bound = fits_at_lem k a t.0 v.0; bound₂ = fits_at_lem k b t.1 v.1.0 }

-- two operands as wide as each other
matched : (a b : Word) → IsWidth a.width → is b.width a ≡ true → AllPass fits (a ∷ b ∷ []) → NumbersOfBits a.width a.value b.value
matched a b w t v =
    let e : a.width ≡ b.width = eqb-true a.width b.width t in
    record { least = w.least; most = w.most; bound = fits_is a v.0; bound₂ = subst (λ (n : ℕ). b.value < 2 ^ n) (sym e) (fits_is b v.1.0) }

width_one : IsWidth i1
width_one = record { least = omega arith; most = omega arith }

-- the tests of the widths, taken apart
abbrev has_width : Word → Bool
has_width w = is_width w.width

result_width_lem : (k : ℕ) (ws : List Word) → (is_width k && every has_width ws) ≡ true → IsWidth k
result_width_lem k ws e = width_is k (and_true (is_width k) (every has_width ws) e).0

operand_widths : (k : ℕ) (ws : List Word) → (is_width k && every has_width ws) ≡ true → AllPass has_width ws
operand_widths k ws e = each has_width ws (and_true (is_width k) (every has_width ws) e).1

-- operands that pass the three tests keep the rule
pub evaluable : (op : Operator) (k : ℕ) (a b c : Word) → widths_hold op k a b c ≡ true → typed op k a b c ≡ true → operands_fit op a b c ≡ true → Evaluable op k a b c
unfolding widths_hold typed operands_fit arity joins cuts
evaluable (Combine o) k a b c w t v = alike k a b (result_width_lem k (a ∷ b ∷ []) w) (and_true (is k a) (is k b) t) (each fits (a ∷ b ∷ []) v)
evaluable Not k a b c w t v =
    let r = result_width_lem k (a ∷ []) w in
    record { least = r.least; most = r.most; bound = fits_at_lem k a t (each fits (a ∷ []) v).0 }
evaluable Implies k a b c w t v =
    let p = and_true (eqb k i1 && is i1 a) (is i1 b) t in
    let q = and_true (eqb k i1) (is i1 a) p.0 in
    subst (λ (n : ℕ). NumbersOfBits n a.value b.value) (sym (eqb-true k i1 q.0)) (alike i1 a b width_one (q.1, p.1) (each fits (a ∷ b ∷ []) v))
evaluable (Compare o) k a b c w t v =
    let p = and_true (eqb k i1) (is b.width a) t in
    (eqb-true k i1 p.0, matched a b (width_is a.width (operand_widths k (a ∷ b ∷ []) w).0) p.1 (each fits (a ∷ b ∷ []) v))
evaluable Ite k a b c w t v =
    let p = and_true (is i1 a && is k b) (is k c) t in
    let q = and_true (is i1 a) (is k b) p.0 in
    let f = each fits (a ∷ b ∷ c ∷ []) v in
    record { test = fits_at_lem i1 a q.0 f.0; bound = fits_at_lem k b q.1 f.1.0; bound₂ = fits_at_lem k c p.1 f.1.1.0 }
evaluable (Compute o) k a b c w t v = alike k a b (result_width_lem k (a ∷ b ∷ []) w) (and_true (is k a) (is k b) t) (each fits (a ∷ b ∷ []) v)
evaluable (Divide o) k a b c w t v = alike k a b (result_width_lem k (a ∷ b ∷ []) w) (and_true (is k a) (is k b) t) (each fits (a ∷ b ∷ []) v)
evaluable (Move o) k a b c w t v =
    let r = result_width_lem k (a ∷ b ∷ []) w in
    let p = and_true (is k a) (is i8 b) t in
    record { least = r.least; most = r.most; bound = fits_at_lem k a p.0 (each fits (a ∷ b ∷ []) v).0 }
evaluable Trun k a b c w t v = result_width_lem k (a ∷ []) w
evaluable (Extend o) k a b c w t v =
    let x = width_is a.width (operand_widths k (a ∷ []) w).0 in
    record { least = x.least; wider = ltb-true a.width k t; most = (result_width_lem k (a ∷ []) w).most; bound = fits_is a (each fits (a ∷ []) v).0 }
evaluable Conc k a b c w t v =
    let p = and_true (eqb k (a.width + b.width)) (leb k max_width) t in
    let x = operand_widths k (a ∷ b ∷ []) w in
    let f = each fits (a ∷ b ∷ []) v in
    record {
      both = eqb-true k (a.width + b.width) p.0;
      least = (width_is a.width x.0).least;
      least₂ = (width_is b.width x.1.0).least;
      most = leb-true k max_width p.1;
      bound = fits_is a f.0;
      bound₂ = fits_is b f.1.0;
    }
evaluable Extr k a b c w t v =
    let p = and_true (is i8 b && is i8 c) (cuts k a.width b.value c.value) t in
    let q = and_true (ltb b.value c.value && leb c.value a.width) (eqb k (c.value - b.value)) p.1 in
    let r = and_true (ltb b.value c.value) (leb c.value a.width) q.0 in
    let x = width_is a.width (operand_widths k (a ∷ b ∷ c ∷ []) w).0 in
    let m : c.value ≤ a.width = leb-true c.value a.width r.1 in
    record {
      least = (result_width_lem k (a ∷ b ∷ c ∷ []) w).least;
      span = eqb-true k (c.value - b.value) q.1;
      rising = ltb-true b.value c.value r.0;
      most = omega arith;
    }

-- ---- as programs compute the tests
one_taken : (x : Bool) → (x && true) ≡ ((x && true) && true)
one_taken x = sym (and_one (x && true))

two_taken : (x y : Bool) → (x && (y && true)) ≡ ((x && y) && true)
two_taken x y = and_two x y ∙ sym (and_one (x && y))

-- a test of the operands that an operator takes
pub taken_is : (op : Operator) (test : Word → Bool) (a b c : Word) → every test (operands_taken op a b c) ≡ (test a && (ltb (arity op) 2 || test b) && (ltb (arity op) 3 || test c))
unfolding arity every
taken_is (Combine o) test a b c = two_taken (test a) (test b)
taken_is Not test a b c = one_taken (test a)
taken_is Implies test a b c = two_taken (test a) (test b)
taken_is (Compare o) test a b c = two_taken (test a) (test b)
taken_is Ite test a b c = and_three (test a) (test b) (test c)
taken_is (Compute o) test a b c = two_taken (test a) (test b)
taken_is (Divide o) test a b c = two_taken (test a) (test b)
taken_is (Move o) test a b c = two_taken (test a) (test b)
taken_is Trun test a b c = one_taken (test a)
taken_is (Extend o) test a b c = one_taken (test a)
taken_is Conc test a b c = two_taken (test a) (test b)
taken_is Extr test a b c = and_three (test a) (test b) (test c)

-- an operator takes 1 to 3 operands
pub arity_bounds : (op : Operator) → (1 ≤ arity op) × (arity op ≤ max_operands)
unfolding arity
arity_bounds (Combine o) = (omega arith, omega arith)
arity_bounds Not = (omega arith, omega arith)
arity_bounds Implies = (omega arith, omega arith)
arity_bounds (Compare o) = (omega arith, omega arith)
arity_bounds Ite = (omega arith, omega arith)
arity_bounds (Compute o) = (omega arith, omega arith)
arity_bounds (Divide o) = (omega arith, omega arith)
arity_bounds (Move o) = (omega arith, omega arith)
arity_bounds Trun = (omega arith, omega arith)
arity_bounds (Extend o) = (omega arith, omega arith)
arity_bounds Conc = (omega arith, omega arith)
arity_bounds Extr = (omega arith, omega arith)

-- a test of the operands of `& | ^`, of `~` and of `ite`
module _ (test : Word → Bool) (a b c : Word) where
  pub combine_tests : (o : Bitwise) → every test (operands_taken (Combine o) a b c) ≡ (test a && test b)
  unfolding arity every
  combine_tests o = and_two (test a) (test b)

  pub not_tests : every test (operands_taken Not a b c) ≡ test a
  unfolding arity every
  not_tests = and_one (test a)

  pub ite_tests : every test (operands_taken Ite a b c) ≡ (test a && test b && test c)
  unfolding arity every
  ite_tests = and_three (test a) (test b) (test c)

-- words that all pass pass as the operands of any operator
module _ (op : Operator) (a b c : Word) where
  pub widths_hold_lem : (k : ℕ) → is_width k ≡ true → every (λ w. is_width w.width) (operands_taken op a b c) ≡ true → widths_hold op k a b c ≡ true
  unfolding widths_hold
  widths_hold_lem k e h = rw (e, h)

  pub operands_pass : fits a ≡ true → fits b ≡ true → fits c ≡ true → operands_fit op a b c ≡ true
  unfolding operands_fit
  operands_pass x y z = taken_is op fits a b c ∙ rw (x, y, z, or_true (ltb (arity op) 2), or_true (ltb (arity op) 3))

-- a value fits where a shift by its width leaves nothing, and in any width of a word's bits or more
pub fits_shr : (v k : ℕ) → eqb (v / 2 ^ k) 0 ≡ ltb v (2 ^ k)
fits_shr v k = elim (dec_lt v (2 ^ k)) [
  | yes h ↦ eq-eqb (v / 2 ^ k) 0 (div-eq_of_lt h) ∙ sym (lt-ltb v (2 ^ k) h)
  | no h ↦ let g : 2 ^ k ≤ v = omega arith in ne_eqb (v / 2 ^ k) 0 (λ e. let l : v / 2 ^ k < 1 = omega arith in omega (arith, (div-lt_iff_lt-mul (pow_pos k)).0 l)) ∙ sym (le-ltb v (2 ^ k) g)
]

pub fits_wide : (v k : ℕ) → v < 2 ^ word_bits → word_bits ≤ k → ltb v (2 ^ k) ≡ true
fits_wide v k h l = lt-ltb v (2 ^ k) (lt_of_lt_of_le h (pow_mono l))

-- the sum of two widths, without adding
pub joins-sub : (k x y : ℕ) → x ≤ k → eqb k (x + y) ≡ eqb y (k - x)
joins-sub k x y h = elim (ℕ_discrete y (k - x)) [
  | yes e ↦ eq-eqb k (x + y) (omega arith) ∙ sym (eq-eqb y (k - x) e)
  | no n ↦ ne_eqb k (x + y) (λ e. n (omega arith)) ∙ sym (ne_eqb y (k - x) n)
]
