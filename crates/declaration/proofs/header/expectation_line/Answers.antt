use Rattle.constraint.specs.File.{with_expectation}
use Rattle.constraint.specs.Read.{read_expectation}
use Rattle.store.specs.Progress.{stored_file}
use Rattle.store.proofs.ExitLaws.{exit}
use Rattle.declaration.proofs.HeaderLaws.{gate}
use Rattle.declaration.proofs.header.expectation_line.Goals as goal

pub returns-in_err-n : goal.returns-in_err-n
unfolding read_expectation
returns-in_err-n c = rw (exit c.from_residual.result c.in_err-n.field-0.0 c.from_residual.ensures)
    (λ bytes t next. rw (gate bytes t c.args.p c.args.p.expectation c.is_none.result c.is_none.ensures) (c.in_err-n.ensures (with_expectation (stored_file bytes t c.args.p)) next), tt)

pub returns : goal.returns
unfolding read_expectation
returns c =
    (λ bytes t next. rw (gate bytes t c.args.p c.args.p.expectation c.is_none.result c.is_none.ensures) (c.in_ok-n.ensures (with_expectation (stored_file bytes t c.args.p)) next), tt)
