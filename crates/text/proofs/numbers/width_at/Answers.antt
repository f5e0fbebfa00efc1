use Prim.Native.Nat.{◌+◌, ◌<◌}
use mathlib.Core.Path.{◌≡◌, sym, ◌∙◌}
use mathlib.Core.Bool.{true, false}
use native.Mathlib.Omega.{arith}
use lib.ListN.{length, get_or, drop}
use Rattle.text.specs.Bytes.{is_digit}
use Rattle.text.specs.Scan.{ends_token}
use Rattle.text.proofs.TypeLaws.{Led, Longer, none_read, width_none, width_other, led, width_one, longer, width_second, width_not, width_two}
use Rattle.text.proofs.SeenLaws.{digit_bounds}
use Rattle.text.proofs.FirstByteLaws.{goes_on}
use Rattle.text.proofs.numbers.width_at.Goals as goal

pub returns-then-at-line : goal.returns-then-at-line
returns-then-at-line c = let a = c.args in none_read _ _ _ _ c.no_type.ensures (width_none a.line.now a.at (omega arith))

pub returns-then-not-is_digit : goal.returns-then-not-is_digit
returns-then-not-is_digit c = let a = c.args in none_read _ _ _ _ c.no_type-then-not-is_digit.ensures (width_other a.line.now a.at (omega arith) (sym c.is_digit.ensures ∙ c.if-not-is_digit.true))

pub overflow_sub-a : goal.overflow_sub-a
overflow_sub-a c =
    let first : (let a = c.args in is_digit (get_or a.line.now a.at 0) ≡ true) = sym c.is_digit.ensures ∙ c.if-not-is_digit.false in
    (digit_bounds _ first).0

pub overflow_cast-a : goal.overflow_cast-a
overflow_cast-a c =
    let first : (let a = c.args in is_digit (get_or a.line.now a.at 0) ≡ true) = sym c.is_digit.ensures ∙ c.if-not-is_digit.false in
    let b = digit_bounds _ first in omega arith

pub returns-then-token_ends : goal.returns-then-token_ends
returns-then-token_ends c =
    let first : (let a = c.args in is_digit (get_or a.line.now a.at 0) ≡ true) = sym c.is_digit.ensures ∙ c.if-not-is_digit.false in
    let is-led : (let a = c.args in Led a.line.now a.at) = let a = c.args in led a.line.now a.at (omega arith) first in
    let a = c.args in
    width_one a.line.now a.at is-led first (sym c.token_ends.ensures ∙ c.if-token_ends.true) _ c.width.ensures

pub bounds-line-next : goal.bounds-line-next
bounds-line-next c =
    let more : (let a = c.args in ends_token (drop (a.at + 1) a.line.now) ≡ false) = sym c.token_ends.ensures ∙ c.if-token_ends.false in
    let room : (let a = c.args in a.at + 1 < length a.line.now) = let a = c.args in (goes_on a.line.now (a.at + 1) more).0 in
    room

pub returns-then-not-is_digit-2 : goal.returns-then-not-is_digit-2
returns-then-not-is_digit-2 c =
    let first : (let a = c.args in is_digit (get_or a.line.now a.at 0) ≡ true) = sym c.is_digit.ensures ∙ c.if-not-is_digit.false in
    let is-led : (let a = c.args in Led a.line.now a.at) = let a = c.args in led a.line.now a.at (omega arith) first in
    let more : (let a = c.args in ends_token (drop (a.at + 1) a.line.now) ≡ false) = sym c.token_ends.ensures ∙ c.if-token_ends.false in
    let is-longer : (let a = c.args in Longer a.line.now a.at) = let a = c.args in longer a.line.now a.at is-led more in
    let a = c.args in none_read _ _ _ _ c.no_type-then-not-is_digit-2.ensures (width_second a.line.now a.at is-longer (sym c.is_digit-2.ensures ∙ c.if-not-is_digit-2.true))

pub bounds-line-next-2 : goal.bounds-line-next-2
bounds-line-next-2 c =
    let more : (let a = c.args in ends_token (drop (a.at + 1) a.line.now) ≡ false) = sym c.token_ends.ensures ∙ c.if-token_ends.false in
    let room : (let a = c.args in a.at + 1 < length a.line.now) = let a = c.args in (goes_on a.line.now (a.at + 1) more).0 in
    room

pub overflow_sub-b : goal.overflow_sub-b
overflow_sub-b c =
    let second : (let a = c.args in is_digit (get_or a.line.now (a.at + 1) 0) ≡ true) = sym c.is_digit-2.ensures ∙ c.if-not-is_digit-2.false in
    (digit_bounds _ second).0

pub overflow_cast-b : goal.overflow_cast-b
overflow_cast-b c =
    let second : (let a = c.args in is_digit (get_or a.line.now (a.at + 1) 0) ≡ true) = sym c.is_digit-2.ensures ∙ c.if-not-is_digit-2.false in
    let b = digit_bounds _ second in omega arith

pub token_ends-requires-2 : goal.token_ends-requires-2
token_ends-requires-2 c =
    let more : (let a = c.args in ends_token (drop (a.at + 1) a.line.now) ≡ false) = sym c.token_ends.ensures ∙ c.if-token_ends.false in
    let room : (let a = c.args in a.at + 1 < length a.line.now) = let a = c.args in (goes_on a.line.now (a.at + 1) more).0 in
    omega (arith, room)

pub overflow_mul-a : goal.overflow_mul-a
overflow_mul-a c =
    let first : (let a = c.args in is_digit (get_or a.line.now a.at 0) ≡ true) = sym c.is_digit.ensures ∙ c.if-not-is_digit.false in
    omega (arith, digit_bounds _ first)

pub overflow_add-a : goal.overflow_add-a
overflow_add-a c =
    let first : (let a = c.args in is_digit (get_or a.line.now a.at 0) ≡ true) = sym c.is_digit.ensures ∙ c.if-not-is_digit.false in
    let second : (let a = c.args in is_digit (get_or a.line.now (a.at + 1) 0) ≡ true) = sym c.is_digit-2.ensures ∙ c.if-not-is_digit-2.false in
    omega (arith, digit_bounds _ first, digit_bounds _ second)

pub returns-then-a-token_ends : goal.returns-then-a-token_ends
returns-then-a-token_ends c =
    let first : (let a = c.args in is_digit (get_or a.line.now a.at 0) ≡ true) = sym c.is_digit.ensures ∙ c.if-not-is_digit.false in
    let is-led : (let a = c.args in Led a.line.now a.at) = let a = c.args in led a.line.now a.at (omega arith) first in
    let more : (let a = c.args in ends_token (drop (a.at + 1) a.line.now) ≡ false) = sym c.token_ends.ensures ∙ c.if-token_ends.false in
    let is-longer : (let a = c.args in Longer a.line.now a.at) = let a = c.args in longer a.line.now a.at is-led more in
    let second : (let a = c.args in is_digit (get_or a.line.now (a.at + 1) 0) ≡ true) = sym c.is_digit-2.ensures ∙ c.if-not-is_digit-2.false in
    let a = c.args in
    width_two a.line.now a.at is-longer first second (rw c.token_ends-2.ensures at c.if-a-token_ends.true) _ c.width-then-a-token_ends.ensures

pub returns : goal.returns
returns c =
    let first : (let a = c.args in is_digit (get_or a.line.now a.at 0) ≡ true) = sym c.is_digit.ensures ∙ c.if-not-is_digit.false in
    let is-led : (let a = c.args in Led a.line.now a.at) = let a = c.args in led a.line.now a.at (omega arith) first in
    let more : (let a = c.args in ends_token (drop (a.at + 1) a.line.now) ≡ false) = sym c.token_ends.ensures ∙ c.if-token_ends.false in
    let is-longer : (let a = c.args in Longer a.line.now a.at) = let a = c.args in longer a.line.now a.at is-led more in
    let a = c.args in
    none_read _ _ _ _ c.no_type-2.ensures (width_not a.line.now a.at is-longer first (rw c.token_ends-2.ensures at c.if-a-token_ends.false))
