-- A constant by what its two parts are read as. Assumes nothing.
use Prim.Native.Nat.{ℕ, ◌-◌, ◌%◌, ◌^◌, ◌≤◌}
use Prim.Native.Char.{code}
use mathlib.Core.Path.{◌≡◌, refl, ap, sym, ◌∙◌}
use mathlib.Core.Bool.{Bool, true, false, cond, ◌&&◌}
use mathlib.Core.List.{List, [], ◌∷◌, ◌++◌, append_assoc}
use native.Mathlib.Omega.{arith}
use lib.Dec.{eqb, leb, ltb}
use lib.ListN.{length, take, drop}
use borrow.Author.Tests.{eqb-true}
use Rattle.edition.specs.Edition.{is_width}
use Rattle.refusal.specs.Lists.{every}
use Rattle.refusal.proofs.BoolLaws.{and_one, and_false}
use Rattle.std.specs.Prelude.{Result, IfOk}
use Rattle.refusal.specs.declared.Fault.{Fault}
use Rattle.refusal.specs.declared.Fault.TheVariants.{Misspelt, NotAWidth, NumberTooLarge}
use Rattle.refusal.specs.Result.{Ok, Err, ensure, ◌>>◌}
use Rattle.refusal.proofs.ResultLaws.{never}
use Rattle.text.specs.Bytes.{front_of, is_digit, is_letter}
use Rattle.text.specs.Lines.{Token}
use Rattle.text.specs.Spelling.{is_numeral, decimal, max_digits, number_bound, is_type, type_width, up_to, behind}
use Rattle.text.specs.declared.Class.TheVariants.{Digit, Solid}
use Rattle.text.specs.declared.NumberError.TheVariants.{TooBig, NotANumber}
use Rattle.text.specs.declared.TypeError.TheVariants.{NoWidth, NoType}
use Rattle.text.specs.Scan.{is_of, past, Number, TypeRead, magnitude, number_read, type_of, type_behind_colon, StopsAt}
use Rattle.text.proofs.PartLaws.{first_fails, part_front, part_behind, part_bare, part_broken}
use Rattle.text.proofs.RunLaws.{every_of_run, run_part, scan_place, strict_split, strict_rest, strict_on}
use Rattle.text.proofs.FirstByteLaws.{digit_solid}
use Rattle.text.proofs.SeenLaws.{letter_other}
use Rattle.arithmetic.proofs.RuleLaws.{width_is}
use Rattle.constraint.specs.File.{Variable}
use Rattle.store.specs.Tables.{variable_mark, operand_of, head_width}
use Rattle.store.proofs.LineTableLaws.{operand_constant, constant_fits}
use Rattle.constraint.specs.declared.Operand.TheVariants.{Const}
use Rattle.operand.specs.declared.Stored.{Stored}
use Rattle.constraint.specs.Read.{in_constraint, read_constant}
use Rattle.text.specs.Scan.{token_at}
use Rattle.operand.specs.Internal.{operand_result, constant_of, StoredFits}

-- a width's head is its own
constant_back : (k v : ℕ) → is_width k ≡ true → operand_of (head_width k) v ≡ Const (record { width = k; value = v })
unfolding head_width
constant_back k v e =
    let l = (width_is k e).least in
    let h = (width_is k e).most in
    let q : k % variable_mark ≡ k = omega arith in
    rw q (operand_constant k v l (omega arith))

-- a constant's head has its width
pub constant_head_fits : (xs : List Variable) (n : Number) (type : TypeRead) → IfOk (constant_of n type) (StoredFits xs)
unfolding head_width
constant_head_fits xs (Err NotANumber) type = tt
constant_head_fits xs (Err TooBig) (Err NoType) = tt
constant_head_fits xs (Err TooBig) (Err NoWidth) = tt
constant_head_fits xs (Err TooBig) (Ok k) = tt
constant_head_fits xs (Ok v) (Err NoType) = tt
constant_head_fits xs (Ok v) (Err NoWidth) = tt
constant_head_fits xs (Ok v) (Ok k) = constant_fits xs (k % variable_mark) (v % 2 ^ k) (omega arith)

-- the tests, whatever they say
constant_split : (t : Token) (v k : ℕ) (numeral type width below : Bool) → is_width k ≡ width → operand_result t (constant_of (cond numeral (cond below (Ok v) (Err TooBig)) (Err NotANumber)) (cond type (cond width (Ok k) (Err NoWidth)) (Err NoType))) ≡ (do
  ensure (numeral && type) (in_constraint t Misspelt)
  ensure width (in_constraint t NotAWidth)
  ensure below (in_constraint t NumberTooLarge)
  Ok (Const (record { width = k; value = v % 2 ^ k })))
constant_split t v k true true true true e = ap Ok (constant_back k (v % 2 ^ k) e)
constant_split t v k true true true false e = refl
constant_split t v k true true false true e = refl
constant_split t v k true true false false e = refl
constant_split t v k true false width true e = refl
constant_split t v k true false width false e = refl
constant_split t v k false type width below e = refl

constant_is : (t : Token) → operand_result t (constant_of (number_read max_digits (up_to (code ":") t.bytes)) (type_of (behind (code ":") t.bytes))) ≡ read_constant t
unfolding read_constant number_read type_of
constant_is t =
    let number = up_to (code ":") t.bytes in
    let type = behind (code ":") t.bytes in
    constant_split t (decimal number) (type_width type) (is_numeral max_digits number) (is_type type) (is_width (type_width type)) (ltb (decimal number) number_bound) refl

constant_bytes : (t : Token) (s : List ℕ) → t.bytes ≡ s → operand_result t (constant_of (number_read max_digits (up_to 58 s)) (type_of (behind 58 s))) ≡ read_constant t
constant_bytes t s q = rw (← q) (constant_is t)

-- ---- digits, and what stands behind them in a token
colon_no_digit : is_digit 58 ≡ false
unfolding is_digit
colon_no_digit = refl

every_none : every is_digit [] ≡ true
unfolding every
every_none = refl

never_good : {A : Type 0} {fault : Fault} {s : Stored} → ◌≡◌ {A = Result Stored Fault} (Err fault) (Ok s) → A
never_good e = never (cc e)

-- no type, no constant, whatever the number
no_type : (n : Number) → constant_of n (Err NoType) ≡ Err Misspelt
no_type (Err NotANumber) = refl
no_type (Err TooBig) = refl
no_type (Ok v) = refl

module _ (ds : List ℕ) (e : every is_digit ds ≡ true) where
  counted_is : (n : ℕ) → number_read n ds ≡ cond (leb 1 (length ds) && leb (length ds) n) (magnitude ds) (Err NotANumber)
  unfolding number_read is_numeral
  counted_is n = rw (e, and_one (leb 1 (length ds) && leb (length ds) n))

  -- only digits: nothing stands behind a colon
  bare_type : type_of (behind 58 (ds ++ [])) ≡ Err NoType
  unfolding type_of is_type
  bare_type = rw (part_bare is_digit 58 colon_no_digit ds e)

  -- another byte than a colon: no number
  other_number_lem : (n b : ℕ) (s : List ℕ) → is_digit b ≡ false → eqb b 58 ≡ false → number_read n (up_to 58 (ds ++ b ∷ s)) ≡ Err NotANumber
  unfolding number_read is_numeral
  other_number_lem n b s d c = rw (part_broken is_digit 58 colon_no_digit ds e b s d c, and_false)

  -- a token of digits and what stands behind them, which starts with no digit
  parts_read : (t : Token) (rest : List ℕ) → t.bytes ≡ ds ++ rest → front_of is_digit rest ≡ [] → operand_result t (constant_of (cond (leb 1 (length ds) && leb (length ds) max_digits) (magnitude ds) (Err NotANumber)) (type_behind_colon rest)) ≡ read_constant t
  unfolding type_behind_colon
  parts_read t [] q r = rw (no_type (cond (leb 1 (length ds) && leb (length ds) max_digits) (magnitude ds) (Err NotANumber))) (rw (bare_type, no_type (number_read max_digits (up_to 58 (ds ++ [])))) at (constant_bytes t (ds ++ []) q))
  parts_read t (b ∷ s) q r = go (eqb b 58) refl
    where
      go : (c : Bool) → eqb b 58 ≡ c → operand_result t (constant_of (cond (leb 1 (length ds) && leb (length ds) max_digits) (magnitude ds) (Err NotANumber)) (cond c (type_of s) (Err NoType))) ≡ read_constant t
      go true c =
          let z : t.bytes ≡ ds ++ (58 ∷ []) ++ s = q ∙ ap (λ (x : ℕ). ds ++ x ∷ s) (eqb-true b 58 c) ∙ sym (append_assoc ds (58 ∷ []) s) in
          rw (part_front is_digit 58 colon_no_digit ds e s, part_behind is_digit 58 colon_no_digit ds e s, counted_is max_digits) at (constant_bytes t (ds ++ (58 ∷ []) ++ s) z)
      go false c =
          rw (no_type (cond (leb 1 (length ds) && leb (length ds) max_digits) (magnitude ds) (Err NotANumber)))
          (rw (other_number_lem max_digits b s (first_fails is_digit b s r) c) at (constant_bytes t (ds ++ b ∷ s) q))

-- a token that starts with a letter
pub letter_misspelt : (t : Token) (b : ℕ) (s : List ℕ) → t.bytes ≡ b ∷ s → is_letter b ≡ true → Err (in_constraint t Misspelt) ≡ read_constant t
letter_misspelt t b s q e = let l = letter_other b e in rw (other_number_lem [] every_none max_digits b s l.0 l.1) at (constant_bytes t (b ∷ s) q)

-- the type of a constant tells where its token stops
pub good_stops : (n : Number) (type : TypeRead) (s : Stored) (end stop : ℕ) → constant_of n type ≡ Ok s → StopsAt end stop type → stop ≡ end
good_stops (Err NotANumber) type s end stop e h = never_good e
good_stops (Err TooBig) (Err NoType) s end stop e h = never_good e
good_stops (Err TooBig) (Err NoWidth) s end stop e h = h
good_stops (Err TooBig) (Ok k) s end stop e h = h
good_stops (Ok v) (Err NoType) s end stop e h = never_good e
good_stops (Ok v) (Err NoWidth) s end stop e h = h
good_stops (Ok v) (Ok k) s end stop e h = h

-- ---- the constant whose token starts at `start`: its digits stop at `colon`
module _ (line : List ℕ) (start colon : ℕ) (h : start ≤ length line) (hc : colon ≡ past (is_of Digit) line start) where
  pub constant_stop : past (is_of Solid) line colon ≡ past (is_of Solid) line start
  constant_stop = strict_on (is_of Digit) (is_of Solid) digit_solid line start colon h hc

  digits_pass : every is_digit (front_of (is_of Digit) (drop start line)) ≡ true
  unfolding is_of
  digits_pass = every_of_run (is_of Digit) (drop start line)

  rest_fails : front_of is_digit (front_of (is_of Solid) (drop colon line)) ≡ []
  unfolding is_of
  rest_fails = strict_rest (is_of Digit) (is_of Solid) digit_solid line start colon h hc

  pub constant_read : {n : Number} {type : TypeRead} → n ≡ cond (leb 1 (colon - start) && leb (colon - start) max_digits) (magnitude (front_of (is_of Digit) (drop start line))) (Err NotANumber) → type ≡ type_behind_colon (front_of (is_of Solid) (drop colon line))
      → let t = token_at (take (past (is_of Solid) line start) line) start in operand_result t (constant_of n type) ≡ read_constant t
  constant_read hn ht =
      let ds = front_of (is_of Digit) (drop start line) in
      let l : length ds ≡ colon - start = omega (arith, scan_place (is_of Digit) line start colon h hc) in
      rw (hn, ht, ← l)
      (parts_read ds digits_pass (token_at (take (past (is_of Solid) line start) line) start) (front_of (is_of Solid) (drop colon line)) (sym (run_part (is_of Solid) line start h) ∙ strict_split (is_of Digit) (is_of Solid) digit_solid line start colon h hc) rest_fails)
