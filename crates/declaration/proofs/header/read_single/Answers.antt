use native.Mathlib.Omega.{arith}
use mathlib.Core.Path.{refl}
use lib.Seq.{length-take-le}
use Rattle.store.proofs.ExitLaws.{exit}
use Rattle.declaration.proofs.HeaderLaws.{single_misplaced, single_missing, single_wrong, single_read}
use Rattle.declaration.proofs.header.read_single.Goals as goal

pub returns-then-not-allowed : goal.returns-then-not-allowed
returns-then-not-allowed g c = λ add next. rw c.of.ensures (single_misplaced c.args.allowed g.meaning c.args.wrong add c.args.text.now c.args.at next c.if-not-allowed.true)

pub returns-in_default : goal.returns-in_default
returns-in_default g c = λ add next. rw c.of-in_default.ensures (single_missing c.args.allowed g.meaning c.args.wrong add c.args.text.now c.args.at next c.if-not-allowed.false (omega arith) c.in_default.ensures.0)

pub returns-in_default-parse : goal.returns-in_default-parse
returns-in_default-parse g c =
    let w = c.in-Some.ensures.1 in
    let said = c.requires.1.1.1.1 _ _ c.in-Some.token.stop _ refl (omega (arith, length-take-le c.in-Some.token.stop c.args.text.now w.2)) c.in_default-parse.ensures in
    λ add next. rw c.of-in_default-parse.ensures (single_wrong c.args.allowed g.meaning c.args.wrong add c.args.text.now c.args.at next c.if-not-allowed.false _ _ c.in-Some.ensures.0 said)

pub returns-in_err-no_more_tokens : goal.returns-in_err-no_more_tokens
returns-in_err-no_more_tokens g c =
    let w = c.in-Some.ensures.1 in
    let said = c.requires.1.1.1.1 _ _ c.in-Some.token.stop _ refl (omega (arith, length-take-le c.in-Some.token.stop c.args.text.now w.2)) c.in-Some-parse.ensures in
    λ add next. rw (exit c.from_residual.result c.in_err-no_more_tokens.field-0.0 c.from_residual.ensures)
    (rw (← c.in_err-no_more_tokens.ensures) at (single_read c.args.allowed g.meaning c.args.wrong add c.args.text.now c.args.at next c.if-not-allowed.false _ _ c.in-Some.ensures.0 c.in-Some-parse.a said))

pub returns : goal.returns
returns g c =
    let w = c.in-Some.ensures.1 in
    let said = c.requires.1.1.1.1 _ _ c.in-Some.token.stop _ refl (omega (arith, length-take-le c.in-Some.token.stop c.args.text.now w.2)) c.in-Some-parse.ensures in
    λ add next. rw (← c.in_ok-no_more_tokens.ensures) at (single_read c.args.allowed g.meaning c.args.wrong add c.args.text.now c.args.at next c.if-not-allowed.false _ _ c.in-Some.ensures.0 c.in-Some-parse.a said)
