-- A setting by what its two parts are read as. Assumes nothing.
use Prim.Native.Nat.{ℕ, ◌-◌, ◌^◌, ◌≤◌, ◌<◌}
use Prim.Native.Char.{code}
use mathlib.Core.Path.{◌≡◌, refl, ap, sym, ◌∙◌}
use mathlib.Core.Bool.{Bool, true, false, cond, ◌&&◌}
use mathlib.Core.List.{List, [], ◌∷◌, ◌++◌, append_assoc}
use Rattle.std.specs.Prelude.{Option, None, Some, Result}
use native.Mathlib.Omega.{arith}
use lib.Dec.{eqb, leb, ltb}
use lib.ListN.{length, get_or, take, drop, length-drop}
use borrow.Author.Tests.{le-leb, lt-leb, eqb-true}
use Rattle.edition.specs.Edition.{max_name_bytes}
use Rattle.refusal.specs.Lists.{every}
use Rattle.refusal.specs.declared.Fault.{Fault}
use Rattle.refusal.specs.declared.Fault.TheVariants.{Misspelt, NumberTooLarge, OverLimit, NotDeclared, ValueDoesNotFit}
use Rattle.refusal.specs.Result.{Reply, Ok, Err, ensure, given, ◌>>=◌, ◌>>◌, refused_as, accepted_as}
use Rattle.refusal.proofs.ListLaws.{first_below}
use Rattle.text.specs.Bytes.{same, front_of, is_letter, is_digit, is_name_byte}
use Rattle.text.specs.declared.Class.TheVariants.{Solid, NameByte}
use Rattle.text.specs.declared.NumberError.TheVariants.{TooBig, NotANumber}
use Rattle.text.specs.Lines.{Token}
use Rattle.text.specs.Spelling.{is_name, is_numeral, decimal, max_digits, number_bound, up_to, behind}
use Rattle.text.specs.Scan.{Number, is_of, past, number_read, token_from}
use Rattle.text.proofs.FirstByteLaws.{name_solid, not_bytes, no_name_part}
use Rattle.text.proofs.PartLaws.{first_fails, part_front, part_behind, part_bare, part_broken}
use Rattle.text.proofs.RunLaws.{run_part, strict_every, strict_split, strict_on, strict_rest}
use Rattle.constraint.specs.File.{Variable, width_at, variable_named}
use Rattle.answer.specs.declared.Setting.{Setting}
use Rattle.answer.specs.Read.{in_answer, setting_of}
use Rattle.answer.specs.Internal.{number_behind_equals, setting_if_fits, setting_named}

-- a variable that is found is one of the variables
pub found_below : (name : List ℕ) (xs : List Variable) (i n : ℕ) → length xs ≡ n → Some i ≡ variable_named name xs → i < n
unfolding variable_named
found_below name xs i n l e = omega (arith, first_below (λ x. same x.name name) 0 i xs (sym e))

abbrev set_to : ℕ → ℕ → ℕ → Setting
set_to i v stop = record { variable = i; value = v; stop = stop }

-- ---- a name, from a place to the end of a text, that is set to v by a token that stops at `stop`
module _ (xs : List Variable) (text : List ℕ) (start stop v : ℕ) where
  pub named_long : max_name_bytes < length text - start → Err OverLimit ≡ setting_named xs (drop start text) stop v
  unfolding setting_named
  named_long h = rw (length-drop, lt-leb (length text - start) max_name_bytes h)

  module _ (short : length text - start ≤ max_name_bytes) where
    pub named_unknown : None ≡ variable_named (drop start text) xs → Err NotDeclared ≡ setting_named xs (drop start text) stop v
    unfolding setting_named
    named_unknown e = rw (length-drop, le-leb (length text - start) max_name_bytes short, ← e)

    module _ (i : ℕ) (e : Some i ≡ variable_named (drop start text) xs) where
      pub named_set : ltb v (2 ^ width_at xs i) ≡ true → ◌≡◌ {A = Result Setting Fault} (Ok (set_to i v stop)) (setting_named xs (drop start text) stop v)
      unfolding setting_named
      named_set f = rw (length-drop, le-leb (length text - start) max_name_bytes short, ← e, f)

      pub named_unfit : ltb v (2 ^ width_at xs i) ≡ false → Err ValueDoesNotFit ≡ setting_named xs (drop start text) stop v
      unfolding setting_named
      named_unfit f = rw (length-drop, le-leb (length text - start) max_name_bytes short, ← e, f)

-- ---- a setting, by its name, its number and what is said of a name with a value
-- what is said of a token is the reader's reply
abbrev pub said : Token → Result Setting Fault → Reply (ℕ × ℕ)
said t r = refused_as (in_answer t) (accepted_as (λ s. (s.variable, s.value)) r)

abbrev pub setting_by : Bool → Number → (ℕ → Result Setting Fault) → Result Setting Fault
setting_by false number named = Err Misspelt
setting_by true (Err NotANumber) named = Err Misspelt
setting_by true (Err TooBig) named = Err NumberTooLarge
setting_by true (Ok v) named = named v

-- no number, no setting
no_number : (named : Bool) (f : ℕ → Result Setting Fault) → setting_by named (Err NotANumber) f ≡ Err Misspelt
no_number false f = refl
no_number true f = refl

module _ (xs : List Variable) (t : Token) (stop : ℕ) where
  -- the tests, whatever they say
  fit_split : (i v : ℕ) (fit : Bool) → said t (cond fit (Ok (set_to i v stop)) (Err ValueDoesNotFit)) ≡ (do
    ensure fit (in_answer t ValueDoesNotFit)
    Ok (i, v))
  fit_split i v true = refl
  fit_split i v false = refl

  setting_split : (v : ℕ) (found : Option ℕ) (named numeral below short : Bool) → said t (setting_by named (cond numeral (cond below (Ok v) (Err TooBig)) (Err NotANumber)) (λ v. cond short (setting_if_fits xs stop v found) (Err OverLimit))) ≡ (do
    ensure (named && numeral) (in_answer t Misspelt)
    ensure below (in_answer t NumberTooLarge)
    ensure short (in_answer t OverLimit)
    i ← given found (in_answer t NotDeclared)
    ensure (ltb v (2 ^ width_at xs i)) (in_answer t ValueDoesNotFit)
    Ok (i, v))
  setting_split v found false numeral below short = refl
  setting_split v found true false below short = refl
  setting_split v found true true false short = refl
  setting_split v found true true true false = refl
  setting_split v None true true true true = refl
  setting_split v (Some i) true true true true = fit_split i v (ltb v (2 ^ width_at xs i))

  setting_is : said t (setting_by (is_name (up_to (code "=") t.bytes)) (number_read max_digits (behind (code "=") t.bytes)) (setting_named xs (up_to (code "=") t.bytes) stop)) ≡ setting_of xs t
  unfolding setting_of number_read setting_named
  setting_is =
      let name = up_to (code "=") t.bytes in
      let number = behind (code "=") t.bytes in
      setting_split (decimal number) (variable_named name xs) (is_name name) (is_numeral max_digits number) (ltb (decimal number) number_bound) (leb (length name) max_name_bytes)

  setting_bytes_lem : (s : List ℕ) → t.bytes ≡ s → said t (setting_by (is_name (up_to 61 s)) (number_read max_digits (behind 61 s)) (setting_named xs (up_to 61 s) stop)) ≡ setting_of xs t
  setting_bytes_lem s q = rw (← q) setting_is

-- ---- bytes of a name, and what stands behind them in a token, which starts with no such byte
equals_separates : is_name_byte 61 ≡ false
unfolding is_name_byte is_letter is_digit
equals_separates = refl

none_misspelt : number_read max_digits [] ≡ (Err NotANumber)
unfolding number_read is_numeral
none_misspelt = refl

module _ (xs : List Variable) (t : Token) (stop : ℕ) (name : List ℕ) (e : every is_name_byte name ≡ true) where
  parts_set : (rest : List ℕ) → t.bytes ≡ name ++ rest → front_of is_name_byte rest ≡ [] → said t (setting_by (is_name name) (number_behind_equals rest) (setting_named xs name stop)) ≡ setting_of xs t
  unfolding number_behind_equals
  parts_set [] q r = rw (no_number (is_name name) (setting_named xs name stop)) (rw (part_bare is_name_byte 61 equals_separates name e, none_misspelt, no_number (is_name (up_to 61 (name ++ []))) (setting_named xs (up_to 61 (name ++ [])) stop)) at (setting_bytes_lem xs t stop (name ++ []) q))
  parts_set (b ∷ s) q r = go (eqb b 61) refl
    where
      go : (c : Bool) → eqb b 61 ≡ c → said t (setting_by (is_name name) (cond c (number_read max_digits s) (Err NotANumber)) (setting_named xs name stop)) ≡ setting_of xs t
      go true c =
          let z : t.bytes ≡ name ++ (61 ∷ []) ++ s = q ∙ ap (λ (x : ℕ). name ++ x ∷ s) (eqb-true b 61 c) ∙ sym (append_assoc name (61 ∷ []) s) in
          rw (part_front is_name_byte 61 equals_separates name e s, part_behind is_name_byte 61 equals_separates name e s) at (setting_bytes_lem xs t stop (name ++ (61 ∷ []) ++ s) z)
      go false c =
          rw (no_number (is_name name) (setting_named xs name stop))
          (rw (not_bytes (up_to 61 (name ++ b ∷ s)) (part_broken is_name_byte 61 equals_separates name e b s (first_fails is_name_byte b s r) c)) at (setting_bytes_lem xs t stop (name ++ b ∷ s) q))

-- ---- the setting whose token starts at `start`: without a letter it is misspelt
pub setting_not : (xs : List Variable) (line : List ℕ) (start : ℕ) → start < length line → is_letter (get_or line start 0) ≡ false → Err (in_answer (token_from line start) Misspelt) ≡ setting_of xs (token_from line start)
setting_not xs line start h a = rw (no_name_part line start h a (code "=")) at (setting_is xs (token_from line start) 0)

-- the bytes of its name stop at `equals`
module _ (line : List ℕ) (start equals : ℕ) (h : start ≤ length line) (he : equals ≡ past (is_of NameByte) line start) where
  pub setting_stop : past (is_of Solid) line equals ≡ past (is_of Solid) line start
  setting_stop = strict_on (is_of NameByte) (is_of Solid) name_solid line start equals h he

  name_run : front_of (is_of NameByte) (drop start line) ≡ drop start (take equals line)
  name_run = run_part (is_of NameByte) line start h ∙ rw he

  bytes_split : (token_from line start).bytes ≡ drop start (take equals line) ++ front_of (is_of Solid) (drop equals line)
  bytes_split = sym (run_part (is_of Solid) line start h) ∙ rw (← name_run) (strict_split (is_of NameByte) (is_of Solid) name_solid line start equals h he)

  pub setting_read : (xs : List Variable) (stop : ℕ) (named : Bool) (number : Number) → named ≡ is_name (drop start (take equals line)) → number ≡ number_behind_equals (front_of (is_of Solid) (drop equals line))
      → said (token_from line start) (setting_by named number (setting_named xs (drop start (take equals line)) stop)) ≡ setting_of xs (token_from line start)
  unfolding is_of
  setting_read xs stop named number p q = rw (p, q) (parts_set xs (token_from line start) stop (drop start (take equals line)) (strict_every (is_of NameByte) (is_of Solid) name_solid line start equals h he) (front_of (is_of Solid) (drop equals line)) bytes_split (strict_rest (is_of NameByte) (is_of Solid) name_solid line start equals h he))
