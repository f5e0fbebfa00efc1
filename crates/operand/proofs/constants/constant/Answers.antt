use Prim.Native.Nat.{◌≤◌}
use mathlib.Core.Path.{◌≡◌, refl, sym, ◌∙◌}
use native.Mathlib.Omega.{arith}
use lib.ListN.{length, take}
use Rattle.text.specs.declared.Class.TheVariants.{Digit, Solid}
use Rattle.text.specs.Scan.{is_of, past}
use Rattle.text.proofs.RunLaws.{past_le, scan_bounds}
use Rattle.std.proofs.Common.{rules}
use Rattle.refusal.specs.declared.Subject.TheVariants.{Constraint}
use Rattle.refusal.specs.Result.{Ok, refusal}
use Rattle.store.proofs.ExitLaws.{mapped_ok, mapped_err, exit}
use Rattle.constraint.specs.Read.{read_constant}
use Rattle.text.specs.Scan.{token_at}
use Rattle.operand.specs.Internal.{operand_result}
use Rattle.operand.proofs.ConstantLaws.{constant_head_fits, good_stops, constant_stop, constant_read}
use Rattle.operand.proofs.TakenLaws.{taken_refused, taken_read}
use Rattle.operand.proofs.constants.constant.Goals as goal

pub overflow_sub-colon : goal.overflow_sub-colon
overflow_sub-colon c =
    let bounds : (let a = c.args in (a.at ≤ c.digits_at-digits.result.stop) × (c.digits_at-digits.result.stop ≤ length a.line.now)) = scan_bounds (is_of Digit) c.args.line.now c.args.at c.digits_at-digits.result.stop c.requires c.digits_at-digits.ensures.1 in
    bounds.0

pub type_at-found-requires : goal.type_at-found-requires
type_at-found-requires c =
    let bounds : (let a = c.args in (a.at ≤ c.digits_at-digits.result.stop) × (c.digits_at-digits.result.stop ≤ length a.line.now)) = scan_bounds (is_of Digit) c.args.line.now c.args.at c.digits_at-digits.result.stop c.requires c.digits_at-digits.ensures.1 in
    bounds.1

pub returns-in_err-operand : goal.returns-in_err-operand
returns-in_err-operand c =
    let read : (let a = c.args in let t = token_at (take (past (is_of Solid) a.line.now a.at) a.line.now) a.at in operand_result t c.constant_of.result ≡ read_constant t) = rw c.constant_of.ensures
    (constant_read c.args.line.now c.args.at c.digits_at-digits.result.stop c.requires c.digits_at-digits.ensures.1 (rw c.digits_at-digits.ensures.0 at c.within_digits-number.ensures) c.type_at-found.ensures.0) in
    let bad = mapped_err c.map_err.result c.constant_of.result (λ fault. refusal Constraint fault c.args.at) c.map_err.ensures.cases (λ e y l. search rules) _ c.in_err-operand.was in
    let a = c.args in
    rw (exit c.from_residual.result c.in_err-operand.field-0.0 c.from_residual.ensures, bad.2)
    (taken_refused read_constant a.line.now a.at (past (is_of Solid) a.line.now a.at) refl _ (rw bad.1 at read), tt, λ xs. tt)

pub returns : goal.returns
returns c =
    let read : (let a = c.args in let t = token_at (take (past (is_of Solid) a.line.now a.at) a.line.now) a.at in operand_result t c.constant_of.result ≡ read_constant t) = rw c.constant_of.ensures
    (constant_read c.args.line.now c.args.at c.digits_at-digits.result.stop c.requires c.digits_at-digits.ensures.1 (rw c.digits_at-digits.ensures.0 at c.within_digits-number.ensures) c.type_at-found.ensures.0) in
    let good : (c.constant_of.result ≡ Ok c.in_ok-operand.operand) = mapped_ok c.map_err.result c.constant_of.result (λ fault. refusal Constraint fault c.args.at) c.map_err.ensures.cases (λ e y l. search rules) _ c.in_ok-operand.was in
    let f = c.type_at-found in
    let g = sym c.constant_of.ensures ∙ good in
    let e : f.result.stop ≡ past (is_of Solid) c.args.line.now c.args.at = good_stops c.within_digits-number.result f.result.width _ _ _ g f.ensures.1 ∙ constant_stop c.args.line.now c.args.at c.digits_at-digits.result.stop c.requires c.digits_at-digits.ensures.1 in
    (rw e (taken_read read_constant c.args.line.now c.args.at (past (is_of Solid) c.args.line.now c.args.at) refl _ (rw good at read)), omega (arith, e, past_le (is_of Solid) c.args.line.now c.args.at c.requires), λ xs. rw g at (constant_head_fits xs c.within_digits-number.result f.result.width))
