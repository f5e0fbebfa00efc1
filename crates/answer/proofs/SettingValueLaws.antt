-- The value of a setting: an equals sign and digits, to the end of the token. Assumes nothing.
use Prim.Native.Nat.{ℕ, suc, ◌+◌, ◌-◌, ◌≤◌, ◌<◌}
use mathlib.Core.Path.{◌≡◌, refl, ap, sym, ◌∙◌}
use mathlib.Core.Bool.{Bool, true, false, cond, ◌&&◌}
use mathlib.Core.List.{List, [], ◌∷◌, append-nil}
use Rattle.std.specs.Prelude.{IfOk, Ok, Err}
use native.Mathlib.Omega.{arith}
use lib.Dec.{leb}
use lib.ListN.{length, get_or, take, drop}
use lib.Seq.{drop-cons, length-take-le}
use borrow.Author.Tests.{ne_eqb}
use Rattle.refusal.proofs.BoolLaws.{and_one}
use Rattle.text.specs.Bytes.{front_of, is_space}
use Rattle.text.specs.Spelling.{is_numeral, max_digits}
use Rattle.text.specs.declared.Class.TheVariants.{Solid, Digit}
use Rattle.text.specs.declared.NumberError.TheVariants.{NotANumber}
use Rattle.text.specs.Scan.{Number, is_of, past, magnitude, number_read, ends_token}
use Rattle.text.proofs.FirstByteLaws.{digit_solid, goes_on}
use Rattle.text.proofs.NumberLaws.{number_other}
use Rattle.text.proofs.RunLaws.{every_of_run, run_more, run_end, run_part, past_more, past_le, scan_bounds, scan_place, strict_split, strict_within, strict_before}
use Rattle.text.proofs.TypeLaws.{token_ends}
use Rattle.answer.specs.Internal.{number_behind_equals}

-- a value that is read, where its token stops
stops : (n : Number) (end stop : ℕ) → stop ≡ end → IfOk n (λ v. stop ≡ end)
stops (Ok v) end stop e = e
stops (Err fault) end stop e = tt

-- no value that is read, and none that is there
pub none_read : (r number : Number) (end stop : ℕ) → r ≡ (Err NotANumber) → number ≡ (Err NotANumber) → (r ≡ number) × IfOk r (λ v. stop ≡ end)
none_read r number end stop hr e = (hr ∙ sym e, rw hr tt)

-- another byte than an equals sign
equals_other : (b : ℕ) (s : List ℕ) → (b ≡ 61 → ⊥) → number_behind_equals (front_of (is_of Solid) (b ∷ s)) ≡ (Err NotANumber)
unfolding number_behind_equals front_of
equals_other b s k = go (is_of Solid b)
  where
    go : (t : Bool) → number_behind_equals (cond t (b ∷ front_of (is_of Solid) s) []) ≡ (Err NotANumber)
    go true = rw (ne_eqb b 61 k)
    go false = refl

solid_equals : is_of Solid 61 ≡ true
unfolding is_of is_space
solid_equals = refl

-- a number of digits
digits_read : (n : ℕ) (s : List ℕ) → cond (leb 1 (length (front_of (is_of Digit) s)) && leb (length (front_of (is_of Digit) s)) n) (magnitude (front_of (is_of Digit) s)) (Err NotANumber) ≡ number_read n (front_of (is_of Digit) s)
unfolding number_read is_numeral is_of
digits_read n s = rw (every_of_run (is_of Digit) s, and_one)

-- ---- the equals sign at `at`, or none
module _ (line : List ℕ) (at : ℕ) where
  pub value_none : at ≡ length line → number_behind_equals (front_of (is_of Solid) (drop at line)) ≡ (Err NotANumber)
  unfolding number_behind_equals
  value_none h = rw (run_end (is_of Solid) line at (omega arith))

  module _ (h : at < length line) where
    pub value_other : (get_or line at 0 ≡ 61 → ⊥) → number_behind_equals (front_of (is_of Solid) (drop at line)) ≡ (Err NotANumber)
    value_other k = rw (drop-cons line at 0 h) (equals_other (get_or line at 0) (drop (suc at) line) k)

    module _ (k : get_or line at 0 ≡ 61) (stop : ℕ) (hs : stop ≡ past (is_of Digit) line (at + 1)) where
      -- behind it stands the number, whose token is the same
      behind_is : number_behind_equals (front_of (is_of Solid) (drop at line)) ≡ number_read max_digits (front_of (is_of Solid) (drop (at + 1) line))
      unfolding number_behind_equals
      behind_is = rw (run_more (is_of Solid) line at h (rw k solid_equals), k)

      pub digits_bounds : (at + 1 ≤ stop) × (stop ≤ length line)
      digits_bounds = scan_bounds (is_of Digit) line (at + 1) stop (omega arith) hs

      -- the token ends behind the digits
      module _ (e : ends_token (drop stop line) ≡ true) where
        only_digits : front_of (is_of Solid) (drop (at + 1) line) ≡ front_of (is_of Digit) (drop (at + 1) line)
        only_digits = strict_split (is_of Digit) (is_of Solid) digit_solid line (at + 1) stop (omega arith) hs ∙ rw (token_ends (drop stop line) e) (append-nil _)

        same_stop : stop ≡ past (is_of Solid) line at
        unfolding past
        same_stop = omega (arith, hs, ap length only_digits, past_more (is_of Solid) line at h (rw k solid_equals))

        pub value_read : (n r : Number) → n ≡ magnitude (front_of (is_of Digit) (drop (at + 1) line)) → r ≡ cond (leb 1 (stop - (at + 1)) && leb (stop - (at + 1)) max_digits) n (Err NotANumber) → (r ≡ number_behind_equals (front_of (is_of Solid) (drop at line))) × IfOk r (λ v. stop ≡ past (is_of Solid) line at)
        value_read n r hn hr =
            let l : stop - (at + 1) ≡ length (front_of (is_of Digit) (drop (at + 1) line)) = omega (arith, scan_place (is_of Digit) line (at + 1) stop (omega arith) hs) in
            (hr ∙ rw (hn, l, behind_is, only_digits) (digits_read max_digits (drop (at + 1) line)), stops r (past (is_of Solid) line at) stop same_stop)

      -- it goes on
      pub value_longer : ends_token (drop stop line) ≡ false → number_behind_equals (front_of (is_of Solid) (drop at line)) ≡ (Err NotANumber)
      value_longer e =
          let g = goes_on line stop e in
          let end = past (is_of Solid) line (at + 1) in
          let l = length-take-le end line (past_le (is_of Solid) line (at + 1) (omega arith)) in
          let lt : stop < end = strict_before (is_of Digit) (is_of Solid) digit_solid line (at + 1) stop (omega arith) hs g.0 g.1 in
          behind_is ∙ rw (run_part (is_of Solid) line (at + 1) (omega arith))
          (sym (number_other max_digits (take end line) (at + 1) stop (omega (arith, digits_bounds, l)) (strict_within (is_of Digit) (is_of Solid) digit_solid line (at + 1) stop (omega arith) hs) (omega (arith, l))))
