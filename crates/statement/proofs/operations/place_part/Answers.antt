use Prim.Native.Nat.{◌<◌}
use mathlib.Core.Path.{◌∙◌}
use native.Mathlib.Omega.{arith}
use Rattle.store.specs.Tables.{line_bodies}
use Rattle.store.proofs.LineTableLaws.{kept_head, kept_body, fit_operand}
use Rattle.store.proofs.ExitLaws.{exit}
use Rattle.statement.proofs.OperandLaws.{next_refused, next_placed, blank_placed}
use Rattle.statement.proofs.operations.place_part.Goals as goal

pub take_operand-requires : goal.take_operand-requires
take_operand-requires c = (c.in_ok-q.ensures.5.0.at, c.requires.0, c.requires.1)

pub returns-in_err-q : goal.returns-in_err-q
returns-in_err-q c = let b = c.in_err-q.ensures in
    let bodies = c.args.bodies.now in
    rw (exit c.from_residual.result c.in_err-q.field-0.0 c.from_residual.ensures)
    (λ f start next v h blank. b.0 bodies f start next h blank, b.1 bodies, b.2 bodies _, λ blank h. rw (b.3 (omega arith)) (blank (omega arith)), b.4, c.requires.5, tt)

pub returns-in_err-taken : goal.returns-in_err-taken
returns-in_err-taken c = let b = c.in_ok-q.ensures in
    let bodies = c.args.bodies.now in
    rw (exit c.from_residual-in_err-taken.result c.in_err-taken.field-0.0 c.from_residual-in_err-taken.ensures)
    (λ f start next v h blank. next_refused f _ c.args.slot _ _ _ _ _ v _ (c.in_err-taken.ensures.0 start next h) ∙ b.0 bodies f start next h blank, b.1 bodies, b.2 bodies _, λ blank h. rw (b.3 (omega arith)) (blank (omega arith)), b.4, c.requires.5, tt)

pub returns : goal.returns
returns c = let b = c.in_ok-q.ensures in
    let bodies = c.args.bodies.now in
    let slot = c.args.slot in
    let m = c.args.m in
    let p = b.5 in
    let k = c.in_ok-taken.ensures in
    let room : slot < line_bodies = omega (arith, p.1, p.0.most) in
    let put = c.put_head.ensures in
    let put₂ = c.put_body.ensures in (
      λ f start next v h blank. rw (put.1, put₂.1) (next_placed _ bodies m slot _ _ c.requires.6 room b.4 c.requires.5 f _ _ _ _ _ v _ (k.0 start next h)) ∙ b.0 bodies f start next h blank,
      rw (put.1, put₂.1) (kept_body (kept_head (b.1 bodies) slot _) slot _),
      λ f. rw (put.1, put₂.1) (fit_operand _ bodies m slot _ _ c.requires.6 room b.4 c.requires.5 _ (b.2 bodies _ f) k.2),
      λ blank h. rw (put.1, put₂.1) (blank_placed _ bodies m slot _ _ c.requires.6 room b.4 c.requires.5 (omega arith) (rw (b.3 (omega arith)) (blank (omega arith)))),
      put.0,
      put₂.0,
      (record { at = k.1; least = p.0.least; most = p.0.most }, p.1),
    )
