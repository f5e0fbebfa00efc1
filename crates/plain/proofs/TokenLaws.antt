-- A token is read as what it spells, and as nothing else. Assumes nothing.
use Prim.Native.Nat.{ℕ, ◌≤◌, ◌<◌}
use Prim.Native.Char.{code}
use mathlib.Core.Path.{◌≡◌, refl, sym, ap, ◌∙◌}
use mathlib.Core.Bool.{Bool, true, false, cond}
use mathlib.Core.List.{List, [], ◌∷◌, ◌++◌, append_assoc}
use Rattle.std.specs.Prelude.{None, Some}
use native.Mathlib.Omega.{arith}
use lib.ListN.{length, drop}
use borrow.Author.Tests.{ltb-true}
use Rattle.edition.specs.declared.Edition.{Edition}
use Rattle.edition.specs.Edition.{max_variables, is_width}
use Rattle.refusal.specs.Result.{Ok}
use Rattle.refusal.specs.SubjectWords.{ascii}
use Rattle.refusal.proofs.ResultLaws.{never, Yields}
use Rattle.arithmetic.specs.declared.Word.{Word}
use Rattle.text.specs.Bytes.{same, is_digit}
use Rattle.text.specs.Lines.{Token}
use Rattle.text.specs.Spelling.{decimal, number_bound, is_type, type_width, up_to, behind}
use Rattle.text.proofs.NameLaws.{same_true}
use Rattle.text.proofs.NumberLaws.{numeral_parts}
use Rattle.text.proofs.TypeLaws.{type_parts}
use Rattle.text.proofs.TokenLaws.{parts_join, up_to_join, behind_join}
use Rattle.text.proofs.SeenLaws.{digits_without}
use Rattle.constraint.specs.declared.Operand.{Operand}
use Rattle.constraint.specs.declared.Operand.TheVariants.{Absent, Var, Const}
use Rattle.constraint.specs.File.{Variable, variable_named}
use Rattle.constraint.specs.Sound.{Each, SoundVariable, Distinct}
use Rattle.constraint.specs.Read.{max_version_digits, version_of, expectation_of, declare, read_operand}
use Rattle.constraint.proofs.NamedLaws.{named_is}
use Rattle.constraint.proofs.VariableLaws.{width_test, variable_within}
use Rattle.constraint.proofs.TokenLaws.{version_parts, declare_yields, operand_yields, declare_spelt, constant_spelt, variable_spelt}
use Rattle.arithmetic.proofs.RuleLaws.{width_is}
use Rattle.plain.specs.Says.{SpellsVersion, SpellsWidth, SpellsVariable, SpellsConstant, SpellsOperand, SaysExpectation, says_0, says_1}

-- ---- a type behind its colon
typed_join : (s d : List ℕ) → s ++ ascii ":i" ++ d ≡ s ++ ascii ":" ++ (code "i" ∷ d)
typed_join s d = append_assoc s (ascii ":i") d ∙ sym (append_assoc s (ascii ":") (code "i" ∷ d))

-- a type, and its digits
type_is : (s : List ℕ) → is_type s ≡ true → is_width (type_width s) ≡ true → (s ≡ code "i" ∷ drop 1 s) × SpellsWidth (drop 1 s) (type_width s)
type_is s e w = let p = type_parts s e in (p.0, record { numeral = p.1; no_zero = p.2; makes = refl; width = width_is (type_width s) w })

typed_is : (w : List ℕ) → is_type (behind (code ":") w) ≡ true → is_width (type_width (behind (code ":") w)) ≡ true → w ≡ up_to (code ":") w ++ ascii ":i" ++ drop 1 (behind (code ":") w)
typed_is w e k =
    let p = (type_is (behind (code ":") w) e k).0 in
    let n : 1 ≤ length (behind (code ":") w) = omega (arith, ap length p) in
    parts_join (code ":") w n ∙ ap (λ (s : List ℕ). up_to (code ":") w ++ (code ":" ∷ []) ++ s) p ∙ sym (typed_join (up_to (code ":") w) (drop 1 (behind (code ":") w)))

module _ (d : List ℕ) (k : ℕ) (h : SpellsWidth d k) where
  type_again : is_type (code "i" ∷ d) ≡ true
  unfolding is_type
  type_again = rw (h.numeral, h.no_zero)

  width_again : is_width (decimal d) ≡ true
  width_again = rw h.makes (width_test k h.width)

-- ---- the header's tokens
pub version_is : (w : List ℕ) (e : Edition) → version_of w ≡ Some e → SpellsVersion w e
version_is w e q =
    let p = version_parts w e q in
    let minor = behind (code ".") w in
    record { major = up_to (code ".") w; minor = minor; spelt = parts_join (code ".") w (numeral_parts max_version_digits minor p.minor).0; major_digits = p.major; minor_digits = p.minor; known = p.found }

pub version_again : (w : List ℕ) (e : Edition) → SpellsVersion w e → version_of w ≡ Some e
unfolding version_of is_digit
version_again w e h =
    let c = digits_without (code ".") refl h.major (numeral_parts max_version_digits h.major h.major_digits).1 in
    rw (h.spelt, up_to_join (code ".") h.minor h.major c, behind_join (code ".") h.minor h.major c, h.major_digits, h.minor_digits) h.known

pub expectation_is : (w : List ℕ) (n : ℕ) → expectation_of w ≡ Some n → SaysExpectation ((w ∷ []) ∷ []) (Some n)
unfolding expectation_of
expectation_is w n e = go (same (ascii "0") w) refl (same (ascii "1") w) refl e
  where
    go : (a : Bool) → same (ascii "0") w ≡ a → (b : Bool) → same (ascii "1") w ≡ b → cond a (Some 0) (cond b (Some 1) None) ≡ Some n → SaysExpectation ((w ∷ []) ∷ []) (Some n)
    go true p b q k = says_0 (ap (λ (s : List ℕ). (s ∷ []) ∷ []) (sym (same_true _ w p))) (sym k)
    go false p true q k = says_1 (ap (λ (s : List ℕ). (s ∷ []) ∷ []) (sym (same_true _ w q))) (sym k)
    go false p false q k = never (cc k)

pub zero_again : expectation_of (ascii "0") ≡ Some 0
unfolding expectation_of same
zero_again = refl

pub one_again : expectation_of (ascii "1") ≡ Some 1
unfolding expectation_of same
one_again = refl

-- ---- declarations
pub declare_is : (e : Edition) (xs : List Variable) (t : Token) → Yields (SpellsVariable t.bytes) (declare e xs t)
declare_is e xs t =
    let type = behind (code ":") t.bytes in
    declare_yields t xs e λ _ k w _ _ _ _. record { width_digits = drop 1 type; spelt = typed_is t.bytes k w; width = (type_is type k w).1 }

pub declare_again : (e : Edition) (xs : List Variable) (x : Variable) (t : Token) → SpellsVariable t.bytes x → SoundVariable e x → variable_named x.name xs ≡ None → length xs < max_variables → declare e xs t ≡ Ok x
declare_again e xs x t q s d h =
    let k = q.width_digits in
    declare_spelt t x.name k (q.spelt ∙ typed_join x.name k) (type_again k x.width q.width) (width_again k x.width q.width) e xs s.spelt s.short s.free d h ∙ rw q.width.makes

-- ---- operands
pub operand_is : (xs : List Variable) (t : Token) → Yields (SpellsOperand xs t.bytes) (read_operand xs t)
operand_is xs t =
    let number = up_to (code ":") t.bytes in
    let type = behind (code ":") t.bytes in
    operand_yields t xs
    (λ i e. (variable_within t.bytes xs i e, sym (named_is t.bytes xs i e)))
    (λ n k w b. record { value_digits = number; width_digits = drop 1 type; spelt = typed_is t.bytes k w; numeral = n; width = (type_is type k w).1; below = ltb-true (decimal number) number_bound b; value = refl })

constant_again : (xs : List Variable) (w : Word) (t : Token) → SpellsConstant t.bytes w → read_operand xs t ≡ Ok (Const w)
constant_again xs w t q =
    let k = q.width_digits in
    constant_spelt t q.value_digits k (q.spelt ∙ typed_join q.value_digits k) (type_again k w.width q.width) (width_again k w.width q.width) xs q.numeral q.below ∙ rw (q.width.makes, ← q.value)

pub operand_again : (e : Edition) (xs : List Variable) → Each (SoundVariable e) xs → Distinct xs → (o : Operand) (t : Token) → SpellsOperand xs t.bytes o → read_operand xs t ≡ Ok o
operand_again e xs sound distinct Absent t h = absurd h
operand_again e xs sound distinct (Var i) t h = variable_spelt e xs sound distinct i h.0 t h.1
operand_again e xs sound distinct (Const w) t h = constant_again xs w t h
