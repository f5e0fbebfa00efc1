use Prim.Native.Nat.{◌+◌, ◌-◌, ◌*◌, ◌^◌, ◌≤◌}
use mathlib.Core.Path.{◌≡◌, refl, sym, ◌∙◌}
use mathlib.Core.Bool.{true}
use native.Mathlib.Omega.{arith}
use lib.ListN.{get_or, drop}
use Rattle.text.specs.Bytes.{front_of}
use Rattle.text.specs.declared.Class.TheVariants.{Digit}
use Rattle.std.specs.Prelude.{Err}
use Rattle.text.specs.declared.NumberError.TheVariants.{TooBig}
use Rattle.text.specs.Scan.{is_of, magnitude}
use Rattle.text.proofs.RunLaws.{past_more, past_stop, past_end}
use Rattle.text.proofs.NumberLaws.{digits_more, digits_stop, digits_end, digits_good, digits_big}
use Rattle.text.proofs.SeenLaws.{digit_bounds}
use Rattle.text.proofs.numbers.digits_at.Goals as goal

pub loop-i-init : goal.loop-i-init
loop-i-init c = record { within = omega arith; fits = omega arith; left = refl; stop = refl }

pub returns-then-not-is_digit : goal.returns-then-not-is_digit
unfolding is_of
returns-then-not-is_digit c = let l = c.loop-i in
    let e = sym c.is_digit.ensures ∙ c.if-not-is_digit.true in (
      digits_good _ l.n l.invariant.fits (sym (digits_stop (is_of Digit) _ l.i l.n c.loop-i-test.true e) ∙ l.invariant.left),
      sym (past_stop (is_of Digit) _ _ c.loop-i-test.true e) ∙ l.invariant.stop,
    )

pub overflow_sub-d : goal.overflow_sub-d
unfolding is_of
overflow_sub-d c =
    let digit : (is_of Digit (get_or c.args.text.now c.loop-i.i 0) ≡ true) = sym c.is_digit.ensures ∙ c.if-not-is_digit.false in
    let d = digit_bounds _ digit in omega arith

pub overflow_cast-d : goal.overflow_cast-d
unfolding is_of
overflow_cast-d c =
    let digit : (is_of Digit (get_or c.args.text.now c.loop-i.i 0) ≡ true) = sym c.is_digit.ensures ∙ c.if-not-is_digit.false in
    let d = digit_bounds _ digit in omega arith

pub returns-then-n : goal.returns-then-n
unfolding is_of
returns-then-n c =
    let digit : (is_of Digit (get_or c.args.text.now c.loop-i.i 0) ≡ true) = sym c.is_digit.ensures ∙ c.if-not-is_digit.false in
    let big : (let a = c.args in 2 ^ 64 ≤ c.loop-i.n * 10 + (get_or a.text.now c.loop-i.i 0 - 48) → Err TooBig ≡ magnitude (front_of (is_of Digit) (drop a.at a.text.now))) = λ h. let l = c.loop-i in
    digits_big _ _ h _ (sym (digits_more (is_of Digit) _ l.i l.n c.loop-i-test.true digit) ∙ l.invariant.left) in
    (c.too_big.ensures.0 ∙ big (omega arith), c.too_big.ensures.1 ∙ c.loop-i.invariant.stop)

pub returns-then-m-d : goal.returns-then-m-d
unfolding is_of
returns-then-m-d c =
    let digit : (is_of Digit (get_or c.args.text.now c.loop-i.i 0) ≡ true) = sym c.is_digit.ensures ∙ c.if-not-is_digit.false in
    let big : (let a = c.args in 2 ^ 64 ≤ c.loop-i.n * 10 + (get_or a.text.now c.loop-i.i 0 - 48) → Err TooBig ≡ magnitude (front_of (is_of Digit) (drop a.at a.text.now))) = λ h. let l = c.loop-i in
    digits_big _ _ h _ (sym (digits_more (is_of Digit) _ l.i l.n c.loop-i-test.true digit) ∙ l.invariant.left) in
    (c.too_big-then-m-d.ensures.0 ∙ big (omega arith), c.too_big-then-m-d.ensures.1 ∙ c.loop-i.invariant.stop)

pub loop-i-preserved : goal.loop-i-preserved
unfolding is_of
loop-i-preserved c =
    let digit : (is_of Digit (get_or c.args.text.now c.loop-i.i 0) ≡ true) = sym c.is_digit.ensures ∙ c.if-not-is_digit.false in
    let l = c.loop-i in
    record { within = omega arith; fits = omega arith; left = sym (digits_more (is_of Digit) _ _ l.n c.loop-i-test.true digit) ∙ l.invariant.left; stop = past_more (is_of Digit) _ _ c.loop-i-test.true digit ∙ l.invariant.stop }

pub returns : goal.returns
returns c = let l = c.loop-i in
    (digits_good _ l.n l.invariant.fits (sym (digits_end (is_of Digit) _ l.i l.n c.loop-i-test.false) ∙ l.invariant.left), sym (past_end (is_of Digit) _ _ c.loop-i-test.false) ∙ l.invariant.stop)
