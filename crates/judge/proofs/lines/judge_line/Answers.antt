use mathlib.Core.Path.{◌≡◌, sym, ◌∙◌}
use Rattle.store.specs.Tables.{line_in}
use Rattle.arithmetic.proofs.RuleLaws.{evaluable}
use Rattle.judge.proofs.HeadLaws.{judge_alike}
use Rattle.judge.proofs.VerdictLaws.{answer, judge_none, judge_holds, judge_violated}
use Rattle.judge.proofs.lines.judge_line.Goals as goal
use Rattle.judge.proofs.lines.judge_line.Goals.{After-evaluate}

pub evaluate-requires : goal.evaluate-requires
unfolding line_in
evaluate-requires c = let h = c.requires.3 in
    let xs = h.variables in
    let f = h.heads_fit in
    let r = h.rules in
    rw (c.target-goal.ensures xs f, c.operand_word-c.ensures xs f, c.operand_word-b.ensures xs f, c.operand_word-a.ensures xs f, c.operator_of-op.ensures) (evaluable _ _ _ _ _ r.widths r.rule r.fit)

-- what the operator answers, under the variables that the heads are known to fit
told : (c : After-evaluate) → c.evaluate.result ≡ answer c.requires.3.variables c.args.row.now (line_in c.args.heads.now c.args.bodies.now c.args.k)
unfolding line_in
told c = let h = c.requires.3 in
    let xs = h.variables in
    let f = h.heads_fit in
    rw (c.target-goal.ensures xs f, c.operand_word-c.ensures xs f, c.operand_word-b.ensures xs f, c.operand_word-a.ensures xs f, c.operator_of-op.ensures) at c.evaluate.ensures

pub returns-in_default : goal.returns-in_default
returns-in_default c xs f = let h = c.requires.3 in
    let e = told (goal.at.returns-in_default c).After-evaluate in
    judge_none _ _ _ h.rules (sym e ∙ c.in_default.is) ∙ judge_alike _ xs _ _ _ _ h.heads_fit f

pub returns-then-result-goal : goal.returns-then-result-goal
unfolding line_in
returns-then-result-goal c xs f = let h = c.requires.3 in
    let e = told (goal.at.returns-then-result-goal c).After-evaluate in
    judge_holds _ _ _ h.rules _ (sym e ∙ c.in-Some.is) (rw (c.target-goal.ensures h.variables h.heads_fit) at c.if-result-goal.true) ∙ judge_alike _ xs _ _ _ _ h.heads_fit f

pub returns-else-result-goal : goal.returns-else-result-goal
unfolding line_in
returns-else-result-goal c xs f = let h = c.requires.3 in
    let e = told (goal.at.returns-else-result-goal c).After-evaluate in
    judge_violated _ _ _ h.rules _ (sym e ∙ c.in-Some.is) (rw (c.target-goal.ensures h.variables h.heads_fit) at c.if-result-goal.false) ∙ judge_alike _ xs _ _ _ _ h.heads_fit f
