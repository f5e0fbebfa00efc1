use Prim.Native.Nat.{◌≤◌, ◌<◌}
use mathlib.Core.Path.{◌≡◌, sym, ◌∙◌}
use native.Mathlib.Omega.{arith}
use lib.ListN.{length, take}
use lib.Seq.{length-take-le}
use Rattle.std.proofs.Common.{rules}
use Rattle.refusal.specs.declared.Subject.TheVariants.{Constraint}
use Rattle.refusal.specs.Result.{Ok, refusal}
use Rattle.store.proofs.ExitLaws.{mapped_ok, mapped_err, exit}
use Rattle.text.proofs.FirstByteLaws.{name_bounds}
use Rattle.operand.proofs.TakenLaws.{named_refused, named_read, named_broken}
use Rattle.operand.proofs.variables.named.Goals as goal

pub token_ends-requires : goal.token_ends-requires
token_ends-requires c =
    let bounds : (let a = c.args in (a.at < c.name_at-name.result.stop) × (c.name_at-name.result.stop ≤ length a.line.now) × (length (take c.name_at-name.result.stop a.line.now) ≡ c.name_at-name.result.stop)) = let b = name_bounds c.args.line.now c.args.at c.requires.0 c.requires.2 c.name_at-name.result.stop c.name_at-name.ensures.0 in
    (b.0, b.1, length-take-le c.name_at-name.result.stop c.args.line.now b.1) in
    bounds.1

pub slice_bounds-variable-end : goal.slice_bounds-variable-end
slice_bounds-variable-end c =
    let bounds : (let a = c.args in (a.at < c.name_at-name.result.stop) × (c.name_at-name.result.stop ≤ length a.line.now) × (length (take c.name_at-name.result.stop a.line.now) ≡ c.name_at-name.result.stop)) = let b = name_bounds c.args.line.now c.args.at c.requires.0 c.requires.2 c.name_at-name.result.stop c.name_at-name.ensures.0 in
    (b.0, b.1, length-take-le c.name_at-name.result.stop c.args.line.now b.1) in
    sym bounds.2

pub variable-requires : goal.variable-requires
variable-requires c =
    let bounds : (let a = c.args in (a.at < c.name_at-name.result.stop) × (c.name_at-name.result.stop ≤ length a.line.now) × (length (take c.name_at-name.result.stop a.line.now) ≡ c.name_at-name.result.stop)) = let b = name_bounds c.args.line.now c.args.at c.requires.0 c.requires.2 c.name_at-name.result.stop c.name_at-name.ensures.0 in
    (b.0, b.1, length-take-le c.name_at-name.result.stop c.args.line.now b.1) in
    (omega (arith, bounds), c.requires.1, c.requires.3, c.name_at-name.ensures.1)

pub returns-then-not-token_ends : goal.returns-then-not-token_ends
returns-then-not-token_ends c = let e = sym c.token_ends.ensures ∙ c.if-not-token_ends.true in
    (rw c.of.ensures (named_broken _ c.args.line.now c.args.at c.requires.0 c.requires.2 c.name_at-name.result.stop c.name_at-name.ensures.0 e), tt, tt)

pub returns-in_err-operand : goal.returns-in_err-operand
returns-in_err-operand c =
    let e = sym c.token_ends.ensures ∙ c.if-not-token_ends.false in
    let bad = mapped_err c.map_err.result c.variable.result (λ fault. refusal Constraint fault c.args.at) c.map_err.ensures.cases (λ e y l. search rules) _ c.in_err-operand.was in
    rw (exit c.from_residual.result c.in_err-operand.field-0.0 c.from_residual.ensures, bad.2)
    (named_refused _ c.args.line.now c.args.at c.requires.0 c.requires.2 c.name_at-name.result.stop c.name_at-name.ensures.0 e _ (rw bad.1 at c.variable.ensures.0), tt, tt)

pub returns : goal.returns
returns c =
    let bounds : (let a = c.args in (a.at < c.name_at-name.result.stop) × (c.name_at-name.result.stop ≤ length a.line.now) × (length (take c.name_at-name.result.stop a.line.now) ≡ c.name_at-name.result.stop)) = let b = name_bounds c.args.line.now c.args.at c.requires.0 c.requires.2 c.name_at-name.result.stop c.name_at-name.ensures.0 in
    (b.0, b.1, length-take-le c.name_at-name.result.stop c.args.line.now b.1) in
    let e = sym c.token_ends.ensures ∙ c.if-not-token_ends.false in
    let read : (c.variable.result ≡ Ok c.in_ok-operand.operand) = mapped_ok c.map_err.result c.variable.result (λ fault. refusal Constraint fault c.args.at) c.map_err.ensures.cases (λ e y l. search rules) _ c.in_ok-operand.was in
    (named_read _ c.args.line.now c.args.at c.requires.0 c.requires.2 c.name_at-name.result.stop c.name_at-name.ensures.0 e _ (rw read at c.variable.ensures.0), bounds.1, rw read at c.variable.ensures.1)
