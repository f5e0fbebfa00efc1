use mathlib.Core.Path.{refl, ◌∙◌}
use native.Mathlib.Omega.{arith}
use Rattle.store.proofs.LineTableLaws.{kept_same}
use Rattle.statement.proofs.OperandLaws.{left_operation, left_other}
use Rattle.statement.proofs.operations.before_operand.Goals as goal

pub returns-then-slot-eq-FIRST : goal.returns-then-slot-eq-FIRST
returns-then-slot-eq-FIRST c = let r = c.place_operator.ensures in
    let e = c.if-slot-eq-FIRST.true in
    (λ bodies f start next h b. rw e (r.0 bodies f start next h (b (omega arith)) ∙ left_operation f _ _ _ _ _), r.1, r.2, λ z. let y : ⊥ = omega arith in absurd y, r.3, rw e r.4)

pub returns-else-slot-eq-FIRST : goal.returns-else-slot-eq-FIRST
returns-else-slot-eq-FIRST c = (λ bodies f start next h b. left_other f _ _ _ _ _ c.args.slot c.if-slot-eq-FIRST.false c.requires.1, λ bodies. kept_same _ bodies _, λ bodies xs f. f, λ z. refl, c.requires.2, (c.requires.0, c.requires.1))
