use lib.ListN.{take}
use Rattle.store.specs.Tables.{variables_in}
use Rattle.store.proofs.ExitLaws.{exit}
use Rattle.answer.proofs.ValueLaws.{values_misplaced, values_refused, values_read}
use Rattle.answer.proofs.settings.value_line.Goals as goal

pub returns-then-not-solved : goal.returns-then-not-solved
returns-then-not-solved c = let a = c.args in (λ next. rw c.of.ensures (values_misplaced (variables_in a.file.now a.variables.now a.n) a.solved (take a.n a.settings.now) a.line.now a.at next c.if-not-solved.true), c.requires.3)

pub returns-in_err-set_all : goal.returns-in_err-set_all
returns-in_err-set_all c = let a = c.args in
    (λ next. rw (exit c.from_residual.result c.in_err-set_all.field-0.0 c.from_residual.ensures) (values_refused (variables_in a.file.now a.variables.now a.n) a.solved (take a.n a.settings.now) a.line.now a.at next c.if-not-solved.false _ c.in_err-set_all.ensures.0), c.set_all.ensures.1)

pub returns : goal.returns
returns c = let a = c.args in (λ next. values_read (variables_in a.file.now a.variables.now a.n) a.solved (take a.n a.settings.now) a.line.now a.at next c.if-not-solved.false _ c.in_ok-set_all.ensures.0, c.set_all.ensures.1)
