use Prim.Native.Nat.{◌+◌, ◌≤◌, ◌<◌}
use mathlib.Core.Path.{sym, ◌∙◌}
use native.Mathlib.Omega.{arith}
use lib.ListN.{length}
use Rattle.answer.proofs.SettingValueLaws.{none_read, value_none, value_other, digits_bounds, value_read, value_longer}
use Rattle.answer.proofs.settings.value_at.Goals as goal

pub returns-then-at-line : goal.returns-then-at-line
returns-then-at-line c = let a = c.args in none_read _ _ _ _ c.no_value.ensures (value_none a.line.now a.at c.if-at-line.true)

pub returns-then-line-at-ne61 : goal.returns-then-line-at-ne61
returns-then-line-at-ne61 c =
    let inside : (let a = c.args in a.at < length a.line.now) = omega (arith, c.requires, c.if-at-line.false) in
    let a = c.args in none_read _ _ _ _ c.no_value-then-line-at-ne61.ensures (value_other a.line.now a.at inside c.if-line-at-ne61.true)

pub token_ends-requires : goal.token_ends-requires
token_ends-requires c =
    let inside : (let a = c.args in a.at < length a.line.now) = omega (arith, c.requires, c.if-at-line.false) in
    let bounds : (let a = c.args in (a.at + 1 ≤ c.digits_at-digits.result.stop) × (c.digits_at-digits.result.stop ≤ length a.line.now)) = let a = c.args in digits_bounds a.line.now a.at inside c.if-line-at-ne61.false _ c.digits_at-digits.ensures.1 in
    bounds.1

pub overflow_sub-stop : goal.overflow_sub-stop
overflow_sub-stop c =
    let inside : (let a = c.args in a.at < length a.line.now) = omega (arith, c.requires, c.if-at-line.false) in
    let bounds : (let a = c.args in (a.at + 1 ≤ c.digits_at-digits.result.stop) × (c.digits_at-digits.result.stop ≤ length a.line.now)) = let a = c.args in digits_bounds a.line.now a.at inside c.if-line-at-ne61.false _ c.digits_at-digits.ensures.1 in
    bounds.0

pub returns-then-token_ends : goal.returns-then-token_ends
returns-then-token_ends c =
    let inside : (let a = c.args in a.at < length a.line.now) = omega (arith, c.requires, c.if-at-line.false) in
    let a = c.args in
    value_read a.line.now a.at inside c.if-line-at-ne61.false _ c.digits_at-digits.ensures.1 (sym c.token_ends.ensures ∙ c.if-token_ends.true) _ _ c.digits_at-digits.ensures.0 c.within_digits.ensures

pub returns-else-token_ends : goal.returns-else-token_ends
returns-else-token_ends c =
    let inside : (let a = c.args in a.at < length a.line.now) = omega (arith, c.requires, c.if-at-line.false) in
    let a = c.args in
    none_read _ _ _ _ c.no_value-else-token_ends.ensures (value_longer a.line.now a.at inside c.if-line-at-ne61.false _ c.digits_at-digits.ensures.1 (sym c.token_ends.ensures ∙ c.if-token_ends.false))
