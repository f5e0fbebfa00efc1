use Prim.Native.Nat.{◌≤◌, ◌<◌}
use mathlib.Core.Path.{sym, ◌∙◌}
use native.Mathlib.Omega.{arith}
use lib.ListN.{length}
use Rattle.text.specs.declared.Class.TheVariants.{Space}
use Rattle.text.specs.Scan.{is_of}
use Rattle.text.proofs.RunLaws.{scan_bounds}
use Rattle.text.proofs.TokenLaws.{tokens_done}
use Rattle.statement.proofs.OperandLaws.{operand_missing}
use Rattle.operand.proofs.TakenLaws.{next_taken, next_constant}
use Rattle.statement.proofs.operations.take_operand.Goals as goal

pub returns-then-start-line : goal.returns-then-start-line
returns-then-start-line c = (λ start next h. rw (c.of.ensures, c.if-start-line.true) (operand_missing _ c.args.line.now start next _ h (tokens_done c.args.line.now c.args.i c.spaces-start.result c.spaces-start.ensures c.if-start-line.true)), tt, tt)

pub bounds-line-start : goal.bounds-line-start
bounds-line-start c =
    let bounds : (let a = c.args in c.spaces-start.result ≤ length a.line.now) = (scan_bounds (is_of Space) c.args.line.now c.args.i c.spaces-start.result c.requires.0 c.spaces-start.ensures).1 in
    let starts : (let a = c.args in c.spaces-start.result < length a.line.now) = omega (arith, bounds, c.if-start-line.false) in
    starts

pub named-requires : goal.named-requires
named-requires c =
    let bounds : (let a = c.args in c.spaces-start.result ≤ length a.line.now) = (scan_bounds (is_of Space) c.args.line.now c.args.i c.spaces-start.result c.requires.0 c.spaces-start.ensures).1 in
    let starts : (let a = c.args in c.spaces-start.result < length a.line.now) = omega (arith, bounds, c.if-start-line.false) in
    (starts, c.requires.1, sym c.is_letter.ensures ∙ c.if-is_letter.true, c.requires.2)

pub constant-requires : goal.constant-requires
constant-requires c =
    let bounds : (let a = c.args in c.spaces-start.result ≤ length a.line.now) = (scan_bounds (is_of Space) c.args.line.now c.args.i c.spaces-start.result c.requires.0 c.spaces-start.ensures).1 in
    bounds

pub returns-then-is_letter : goal.returns-then-is_letter
returns-then-is_letter c =
    let bounds : (let a = c.args in c.spaces-start.result ≤ length a.line.now) = (scan_bounds (is_of Space) c.args.line.now c.args.i c.spaces-start.result c.requires.0 c.spaces-start.ensures).1 in
    let starts : (let a = c.args in c.spaces-start.result < length a.line.now) = omega (arith, bounds, c.if-start-line.false) in
    (λ start next h. c.named.ensures.0 ∙ next_taken _ c.args.line.now c.args.i c.spaces-start.result c.spaces-start.ensures starts _, c.named.ensures.1, c.named.ensures.2)

pub returns-else-is_letter : goal.returns-else-is_letter
returns-else-is_letter c =
    let bounds : (let a = c.args in c.spaces-start.result ≤ length a.line.now) = (scan_bounds (is_of Space) c.args.line.now c.args.i c.spaces-start.result c.requires.0 c.spaces-start.ensures).1 in
    let starts : (let a = c.args in c.spaces-start.result < length a.line.now) = omega (arith, bounds, c.if-start-line.false) in
    (λ start next h. c.constant.ensures.0 ∙ next_constant _ c.args.line.now c.args.i c.spaces-start.result c.spaces-start.ensures starts _ (sym c.is_letter.ensures ∙ c.if-is_letter.false), c.constant.ensures.1, c.constant.ensures.2 _)
