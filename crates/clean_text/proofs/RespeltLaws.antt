-- Each token of a clean text is a word that spells what it was made from, in no more bytes than the token that it was read from. Assumes nothing.
use Prim.Native.Nat.{ℕ, ◌/◌, ◌^◌, ◌≤◌, ◌<◌}
use Prim.Native.Char.{code}
use mathlib.Core.Path.{◌≡◌, refl, sym, ap}
use mathlib.Core.Bool.{true, false, ◌&&◌}
use mathlib.Core.List.{List, [], ◌∷◌, ◌++◌, append_assoc}
use Rattle.std.specs.Prelude.{Some}
use native.Mathlib.Decide.{dec_lt}
use native.Mathlib.Nat.{mod-le, mod-lt, mod-eq_of_lt}
use native.Mathlib.Omega.{arith}
use lib.Pow.{pow_pos}
use lib.Dec.{eqb}
use lib.ListN.{length, length-append}
use borrow.Author.Tests.{ne_eqb, le-leb}
use Rattle.edition.specs.declared.Edition.{Edition}
use Rattle.edition.specs.Edition.{edition10, edition_numbered}
use Rattle.refusal.specs.Lists.{every}
use Rattle.refusal.specs.SubjectWords.{ascii}
use Rattle.refusal.proofs.ListLaws.{cond_some}
use Rattle.arithmetic.specs.declared.Word.{Word}
use Rattle.text.specs.Bytes.{is_digit}
use Rattle.text.specs.Spelling.{is_name, is_numeral, decimal, decimal_from, max_digits, max_width_digits, leading_zero}
use Rattle.text.proofs.NumberLaws.{numeral_parts}
use Rattle.text.proofs.SeenLaws.{is_seen, numeral_seen}
use Rattle.constraint.specs.declared.Operand.{Operand}
use Rattle.constraint.specs.declared.Operand.TheVariants.{Absent, Var, Const}
use Rattle.constraint.specs.File.{Variable, name_at}
use Rattle.constraint.specs.Sound.{Each, SoundVariable}
use Rattle.constraint.specs.Read.{max_version_digits}
use Rattle.constraint.proofs.NamedLaws.{named_sound}
use Rattle.constraint.proofs.SpacedLaws.{SeenWord, word_name, word_more}
use Rattle.plain.specs.Says.{SpellsVersion, SpellsWidth, SpellsVariable, SpellsConstant, SpellsOperand}
use Rattle.printing.specs.Digits.{digit, digits_in, digits}
use Rattle.printing.proofs.DigitLaws.{digits_one, digits_step}
use Rattle.printing.proofs.DecimalLaws.{digits_all, digits_numeral, digits_make}
use Rattle.clean_text.specs.Text.{version_text, type_text, declaration_text, constant_text, operand_tokens}
use Rattle.clean_text.proofs.DigitCosts.{few_digits, digits_cost}

-- ---- words
pub word_digits : (v : ℕ) → SeenWord (digits v)
word_digits v = record { seen = numeral_seen (digits v) (digits_all v); some_bytes = (numeral_parts max_digits (digits v) (digits_numeral v)).0 }

word_typed : (s : List ℕ) (k : ℕ) → SeenWord s → SeenWord (s ++ type_text k)
unfolding type_text every is_seen
word_typed s k w = word_more s (ascii ":i" ++ digits k) w (word_digits k).seen

pub word_declaration : (x : Variable) → is_name x.name ≡ true → SeenWord (declaration_text x)
unfolding declaration_text
word_declaration x e = word_typed x.name x.width (word_name x.name e)

pub word_version : (e : Edition) → SeenWord (version_text e)
unfolding version_text every is_seen
word_version e = word_more (digits e.major ++ ascii ".") (digits e.minor) (word_more (digits e.major) (ascii ".") (word_digits e.major) refl) (word_digits e.minor).seen

-- ---- the version
module _ (t : List ℕ) (e : Edition) (h : SpellsVersion t e) where
  -- there is one edition
  pub only_edition : e ≡ edition10
  unfolding edition_numbered
  only_edition = let p = cond_some (eqb (decimal h.major) 1 && eqb (decimal h.minor) 0) (Some edition10) e h.known in cc p.1

  pub version_spelt : SpellsVersion (version_text e) e
  unfolding version_text digits digits_in is_numeral every is_digit decimal_from edition_numbered
  version_spelt = rw only_edition (record { major = digits 1; minor = digits 0; spelt = refl; major_digits = refl; minor_digits = refl; known = refl })

  pub version_cost : length (version_text e) ≤ length t
  unfolding version_text digits digits_in
  version_cost = rw only_edition (omega (arith, ap length h.spelt, length-append (h.major ++ ascii ".") h.minor, length-append h.major (ascii "."), numeral_parts max_version_digits h.major h.major_digits, numeral_parts max_version_digits h.minor h.minor_digits))

-- ---- types
-- digits have no leading zero, of a number below a hundred
no_zero : (k : ℕ) → k < 100 → leading_zero (digits k) ≡ false
unfolding leading_zero
no_zero k h = elim (dec_lt k 10) [
  | yes p ↦ rw (digits_one k p)
  | no p ↦ rw (digits_step k (omega arith) (omega arith), digits_one (k / 10) (omega arith)) (ne_eqb (digit (k / 10)) (code "0") (omega arith))
]

module _ (d : List ℕ) (k : ℕ) (h : SpellsWidth d k) where
  width_spelt : SpellsWidth (digits k) k
  unfolding is_numeral
  width_spelt =
      let w = h.width in
      let n = few_digits max_width_digits k (omega arith) (omega arith) (omega arith) in
      record { numeral = rw (le-leb 1 (length (digits k)) (word_digits k).some_bytes, le-leb (length (digits k)) max_width_digits n, digits_all k); no_zero = no_zero k (omega arith); makes = digits_make k (omega arith); width = w }

  -- a text in front of a type, no longer than the one that stood there
  typed_cost : (t s s' : List ℕ) → t ≡ s' ++ ascii ":i" ++ d → length s ≤ length s' → length (s ++ type_text k) ≤ length t
  unfolding type_text
  typed_cost t s s' e n =
      let w = h.width in
      let c = digits_cost max_width_digits k d h.numeral (omega (arith, h.makes)) (omega arith) in
      omega (arith, c, ap length e, length-append (s' ++ ascii ":i") d, length-append s' (ascii ":i"), length-append s (ascii ":i" ++ digits k))

-- ---- declarations
module _ (t : List ℕ) (x : Variable) (h : SpellsVariable t x) where
  pub variable_spelt : SpellsVariable (declaration_text x) x
  unfolding declaration_text type_text
  variable_spelt = record { width_digits = digits x.width; spelt = sym (append_assoc x.name (ascii ":i") (digits x.width)); width = width_spelt h.width_digits x.width h.width }

  pub variable_cost : length (declaration_text x) ≤ length t
  unfolding declaration_text
  variable_cost = typed_cost h.width_digits x.width h.width t x.name x.name h.spelt (omega arith)

-- ---- operands
module _ (t : List ℕ) (w : Word) (h : SpellsConstant t w) where
  -- it is kept reduced
  reduced : (w.value < 2 ^ w.width) × (w.value ≤ decimal h.value_digits)
  reduced = rw h.value (mod-lt (decimal h.value_digits) (pow_pos w.width), mod-le (decimal h.value_digits) (2 ^ w.width))

  constant_spelt : SpellsConstant (constant_text w) w
  unfolding constant_text type_text
  constant_spelt =
      let made = digits_make w.value (omega (arith, reduced, h.below)) in
      record { value_digits = digits w.value; width_digits = digits w.width; spelt = sym (append_assoc (digits w.value) (ascii ":i") (digits w.width)); numeral = digits_numeral w.value; width = width_spelt h.width_digits w.width h.width; below = omega (arith, made, reduced, h.below); value = rw made (sym (mod-eq_of_lt reduced.0)) }

  constant_cost : length (constant_text w) ≤ length t
  unfolding constant_text
  constant_cost = typed_cost h.width_digits w.width h.width t (digits w.value) h.value_digits h.spelt (digits_cost max_digits w.value h.value_digits h.numeral reduced.1 (omega (arith, reduced, h.below)))

-- an operand has one token, a word that spells it
pub record Respelt (xs : List Variable) (t : List ℕ) (o : Operand) : Type 0 where
  pub token : List ℕ
  pub tokens : operand_tokens xs o ≡ token ∷ []
  pub spelt : SpellsOperand xs token o
  pub word : SeenWord token
  pub cost : length token ≤ length t

pub operand_again : (e : Edition) (xs : List Variable) → Each (SoundVariable e) xs → (t : List ℕ) (o : Operand) → SpellsOperand xs t o → Respelt xs t o
unfolding operand_tokens constant_text
operand_again e xs sound t Absent h = absurd h
operand_again e xs sound t (Var i) h = record { token = name_at xs i; tokens = refl; spelt = (h.0, refl); word = word_name (name_at xs i) (named_sound e xs i sound h.0).0; cost = omega (arith, ap length h.1) }
operand_again e xs sound t (Const w) h = record { token = constant_text w; tokens = refl; spelt = constant_spelt t w h; word = word_typed (digits w.value) w.width (word_digits w.value); cost = constant_cost t w h }
