use mathlib.Core.Path.{◌≡◌, sym}
use mathlib.Core.Bool.{true}
use mathlib.Core.List.{◌∷◌}
use Prim.Native.Nat.{◌≤◌, ◌<◌}
use native.Mathlib.Omega.{arith}
use lib.ListN.{length, take, drop}
use lib.Seq.{length-take-le}
use Rattle.arithmetic.proofs.RuleLaws.{arity_bounds}
use Rattle.text.specs.Lines.{tokens_from}
use Rattle.text.specs.Scan.{token_at}
use Rattle.constraint.specs.File.{edition_of}
use Rattle.store.proofs.LineTableLaws.{kept_same, kept_operator, fit_operator, line_operator}
use Rattle.statement.proofs.OperandLaws.{operation_missing, operation_unknown, operation_read}
use Rattle.statement.proofs.operations.place_operator.Goals as goal

pub slice_bounds-operator_at-end : goal.slice_bounds-operator_at-end
slice_bounds-operator_at-end c =
    let within : (let t = c.in-Some.token in (t.start < t.stop) × (t.stop ≤ length c.args.line.now) × (length (take t.stop c.args.line.now) ≡ t.stop)) = let w = c.in-Some.ensures.1 in
    (w.1, w.2, length-take-le c.in-Some.token.stop c.args.line.now w.2) in
    sym within.2

pub operator_at-requires : goal.operator_at-requires
operator_at-requires c =
    let within : (let t = c.in-Some.token in (t.start < t.stop) × (t.stop ≤ length c.args.line.now) × (length (take t.stop c.args.line.now) ≡ t.stop)) = let w = c.in-Some.ensures.1 in
    (w.1, w.2, length-take-le c.in-Some.token.stop c.args.line.now w.2) in
    omega (arith, within)

pub returns-in_default : goal.returns-in_default
returns-in_default c = (λ bodies f start next h b. rw c.of.ensures (operation_missing f _ _ c.args.line.now start next h c.in_default.ensures.0), λ bodies. kept_same _ bodies _, λ bodies xs f. f, c.requires.1, tt)

pub returns-in_default-operator_at : goal.returns-in_default-operator_at
returns-in_default-operator_at c =
    let tokens : (let t = c.in-Some.token in tokens_from true c.args.i (drop c.args.i c.args.line.now) ≡ token_at (take t.stop c.args.line.now) t.start ∷ tokens_from true t.stop (drop t.stop c.args.line.now)) = c.in-Some.ensures.0 in
    (λ bodies f start next h b. rw c.of-in_default-operator_at.ensures (operation_unknown f _ _ _ _ _ tokens (c.in_default-operator_at.ensures (edition_of f))), λ bodies. kept_same _ bodies _, λ bodies xs f. f, c.requires.1, tt)

pub returns : goal.returns
returns c =
    let tokens : (let t = c.in-Some.token in tokens_from true c.args.i (drop c.args.i c.args.line.now) ≡ token_at (take t.stop c.args.line.now) t.start ∷ tokens_from true t.stop (drop t.stop c.args.line.now)) = c.in-Some.ensures.0 in
    let within : (let t = c.in-Some.token in (t.start < t.stop) × (t.stop ≤ length c.args.line.now) × (length (take t.stop c.args.line.now) ≡ t.stop)) = let w = c.in-Some.ensures.1 in
    (w.1, w.2, length-take-le c.in-Some.token.stop c.args.line.now w.2) in
    let put = c.put_operator.ensures in
    let op = c.in-Some-operator_at.op in
    let heads = c.args.heads.now in
    let m = c.args.m in
    let n = arity_bounds op in
    (λ bodies f start next h b. rw (put.1, c.arity.ensures, line_operator heads bodies m op c.requires.1 c.requires.2, b) (operation_read f _ _ _ _ _ tokens op (c.in-Some-operator_at.ensures (edition_of f))), λ bodies. rw put.1 (kept_operator (kept_same heads bodies m) op), λ bodies xs f. rw put.1 (fit_operator xs heads bodies m op f), put.0, (record { at = within.1; least = rw c.arity.ensures n.0; most = rw c.arity.ensures n.1 }, rw c.arity.ensures n.0))
