-- What holds of all that a token is read to; a token that spells a variable or a constant is read to it; a line with one token, and a line that is added. Assumes nothing.
use Prim.Native.Nat.{ℕ, ◌%◌, ◌^◌, ◌≤◌, ◌<◌}
use Prim.Native.Char.{code}
use mathlib.Core.Path.{◌≡◌, refl, ap, ◌∙◌}
use mathlib.Core.Bool.{Bool, true, false, not, ◌&&◌}
use mathlib.Core.List.{List, [], ◌∷◌, ◌++◌, append_assoc}
use Rattle.std.specs.Prelude.{Option, None, Some}
use lib.Dec.{leb, ltb}
use lib.ListN.{length}
use borrow.Author.Tests.{le-leb, lt-ltb}
use Rattle.edition.specs.declared.Edition.{Edition}
use Rattle.edition.specs.Edition.{edition_numbered, max_variables, max_name_bytes, is_width}
use Rattle.refusal.specs.declared.Fault.{Fault}
use Rattle.refusal.specs.declared.Subject.TheVariants.{Constraint}
use Rattle.std.specs.Prelude.{is_some}
use Rattle.refusal.specs.Result.{Reply, Ok, Err}
use Rattle.refusal.specs.SubjectWords.{ascii}
use Rattle.refusal.proofs.BoolLaws.{and_true}
use Rattle.refusal.proofs.ListLaws.{cond_some}
use Rattle.refusal.proofs.ResultLaws.{Yields, yields_accepted, yields_refused, yields_cond, yields_ensure, yields_both, yields_given}
use Rattle.text.specs.Bytes.{is_digit}
use Rattle.text.specs.Lines.{TextLine, Token, arguments}
use Rattle.text.specs.Spelling.{is_name, is_numeral, decimal, max_digits, number_bound, is_type, type_width, up_to, behind}
use Rattle.text.proofs.NameLaws.{not_name}
use Rattle.text.proofs.NumberLaws.{numeral_parts}
use Rattle.text.proofs.SeenLaws.{digits_without, name_no_colon}
use Rattle.text.proofs.TokenLaws.{token_bytes, first_token, no_token, up_to_join, behind_join}
use Rattle.text.proofs.ReadingLaws.{yields_next, yields_no_more}
use Rattle.spelling.specs.Operators.{is_reserved}
use Rattle.constraint.specs.declared.Operand.{Operand}
use Rattle.constraint.specs.declared.Operand.TheVariants.{Var, Const}
use Rattle.constraint.specs.declared.Line.{Line}
use Rattle.constraint.specs.File.{Variable, File, with_line, variable_named, name_at}
use Rattle.constraint.specs.Read.{read_single, max_version_digits, version_of, declare, read_variable, read_constant, read_operand, add_line}
use Rattle.constraint.specs.Sound.{Each, SoundVariable, Distinct}
use Rattle.constraint.proofs.NamedLaws.{named_sound, named_at}

-- ---- a version
-- its parts, where it is one of an edition
pub record VersionParts (s : List ℕ) (e : Edition) : Type 0 where
  pub major : is_numeral max_version_digits (up_to (code ".") s) ≡ true
  pub minor : is_numeral max_version_digits (behind (code ".") s) ≡ true
  pub found : edition_numbered (decimal (up_to (code ".") s)) (decimal (behind (code ".") s)) ≡ Some e

pub version_parts : (s : List ℕ) (e : Edition) → version_of s ≡ Some e → VersionParts s e
unfolding version_of
version_parts s e h =
    let major = up_to (code ".") s in
    let minor = behind (code ".") s in
    let p = cond_some (is_numeral max_version_digits major && is_numeral max_version_digits minor) (edition_numbered (decimal major) (decimal minor)) e h in
    let q = and_true (is_numeral max_version_digits major) (is_numeral max_version_digits minor) p.0 in
    record { major = q.0; minor = q.1; found = p.1 }

-- ---- what holds of a declaration and of an operand, by the tests that the token passes
module _ (t : Token) (xs : List Variable) where
  -- the part in front of the type, and the type
  abbrev front : List ℕ
  front = up_to (code ":") t.bytes

  abbrev type : List ℕ
  type = behind (code ":") t.bytes

  pub declare_yields : {Q : Variable → Type 0} (e : Edition)
      → (is_name front ≡ true → is_type type ≡ true → is_width (type_width type) ≡ true → leb (length front) max_name_bytes ≡ true → ltb (length xs) max_variables ≡ true → not (is_reserved e front) ≡ true → not (is_some (variable_named front xs)) ≡ true → Q (record { name = front; width = type_width type }))
      → Yields Q (declare e xs t)
  unfolding declare
  declare_yields e h =
      yields_both (is_name front) (is_type type) _ λ n k.
      yields_ensure (is_width (type_width type)) _ λ w.
      yields_both (leb (length front) max_name_bytes) (ltb (length xs) max_variables) _ λ s r.
      yields_both (not (is_reserved e front)) (not (is_some (variable_named front xs))) _ λ u d.
      yields_accepted (h n k w s r u d)

  pub operand_yields : {Q : Operand → Type 0}
      → ((i : ℕ) → variable_named t.bytes xs ≡ Some i → Q (Var i))
      → (is_numeral max_digits front ≡ true → is_type type ≡ true → is_width (type_width type) ≡ true → ltb (decimal front) number_bound ≡ true → Q (Const (record { width = type_width type; value = decimal front % 2 ^ type_width type })))
      → Yields Q (read_operand xs t)
  unfolding read_operand read_variable read_constant
  operand_yields v c = yields_cond (is_name t.bytes)
      (yields_ensure (leb (length t.bytes) max_name_bytes) _ λ _.
      yields_given (variable_named t.bytes xs) _ λ i e.
      yields_accepted (v i e))
      (yields_both (is_numeral max_digits front) (is_type type) _ λ n k.
      yields_ensure (is_width (type_width type)) _ λ w.
      yields_ensure (ltb (decimal front) number_bound) _ λ b.
      yields_accepted (c n k w b))

-- ---- a text in front of a type is read to what it spells
module _ (t : Token) (s d : List ℕ) (q : t.bytes ≡ s ++ ascii ":" ++ (code "i" ∷ d)) (type : is_type (code "i" ∷ d) ≡ true) (width : is_width (decimal d) ≡ true) where
  -- a name that is free declares a variable
  pub declare_spelt : (e : Edition) (xs : List Variable) → is_name s ≡ true → length s ≤ max_name_bytes → is_reserved e s ≡ false → variable_named s xs ≡ None → length xs < max_variables → declare e xs t ≡ Ok (record { name = s; width = decimal d })
  unfolding declare
  declare_spelt e xs name short free new room =
      let c = name_no_colon s name in
      rw (q, up_to_join (code ":") (code "i" ∷ d) s c, behind_join (code ":") (code "i" ∷ d) s c, name, type, width, le-leb (length s) max_name_bytes short, lt-ltb (length xs) max_variables room, free, new)

  -- digits are a constant
  pub constant_spelt : (xs : List Variable) → is_numeral max_digits s ≡ true → decimal s < number_bound → read_operand xs t ≡ Ok (Const (record { width = decimal d; value = decimal s % 2 ^ decimal d }))
  unfolding read_operand read_constant is_digit
  constant_spelt xs number below =
      let p = numeral_parts max_digits s number in
      let c = digits_without (code ":") refl s p.1 in
      let n : is_name (s ++ ascii ":" ++ (code "i" ∷ d)) ≡ false = ap is_name (append_assoc s (ascii ":") (code "i" ∷ d)) ∙ not_name s _ p.1 p.0 in
      rw (q, n, up_to_join (code ":") (code "i" ∷ d) s c, behind_join (code ":") (code "i" ∷ d) s c, number, type, width, lt-ltb (decimal s) number_bound below)

-- ---- the name of a variable
pub variable_spelt : (e : Edition) (xs : List Variable) → Each (SoundVariable e) xs → Distinct xs → (i : ℕ) → i < length xs → (t : Token) → t.bytes ≡ name_at xs i → read_operand xs t ≡ Ok (Var i)
unfolding read_operand read_variable
variable_spelt e xs sound distinct i h t q =
    let s = named_sound e xs i sound h in
    rw (q, s.0, le-leb (length (name_at xs i)) max_name_bytes s.1, named_at xs distinct i h)

-- ---- a line with one token: what holds by that token, and what it is read to
module _ {A : Type 0} (allowed : Bool) (parse : List ℕ → Option A) (wrong : Fault) (add : A → File) (l : TextLine) where
  pub single_yields : {Q : File → Type 0} → ((t : Token) (a : A) → allowed ≡ true → arguments l ≡ t ∷ [] → parse t.bytes ≡ Some a → Q (add a)) → Yields Q (read_single allowed parse wrong add l)
  unfolding read_single
  single_yields h =
      yields_ensure allowed _ λ e.
      yields_next Constraint l (arguments l) λ p q.
      yields_given (parse p.0.bytes) _ λ a k.
      yields_no_more Constraint p.1 λ z.
      yields_accepted (h p.0 a e (q ∙ ap (λ (ts : List Token). p.0 ∷ ts) z) k)

  pub single_again : (w : List ℕ) (a : A) → allowed ≡ true → token_bytes (arguments l) ≡ w ∷ [] → parse w ≡ Some a → read_single allowed parse wrong add l ≡ Ok (add a)
  unfolding read_single
  single_again w a h e p =
      let q = first_token (arguments l) w [] e in
      rw (h, q.2, q.3, p, no_token q.1 q.4)

-- ---- a line that is added
pub add_yields : {Q : File → Type 0} (f : File) {r : Reply Line} → Yields (λ line. Q (with_line f line)) r → Yields Q (add_line f r)
add_yields f {r = Ok line} h = yields_accepted (h.holds line refl)
add_yields f {r = Err r} h = yields_refused
