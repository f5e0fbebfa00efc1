use Rattle.constraint.specs.File.{with_version}
use Rattle.constraint.specs.Read.{read_version}
use Rattle.store.specs.Progress.{stored_file}
use Rattle.store.proofs.ExitLaws.{exit}
use Rattle.declaration.proofs.HeaderLaws.{gate}
use Rattle.declaration.proofs.header.version_line.Goals as goal

pub returns-in_err-e : goal.returns-in_err-e
unfolding read_version
returns-in_err-e c = rw (exit c.from_residual.result c.in_err-e.field-0.0 c.from_residual.ensures)
    (λ bytes t next. rw (gate bytes t c.args.p c.args.p.version c.is_none.result c.is_none.ensures) (c.in_err-e.ensures (with_version (stored_file bytes t c.args.p)) next), tt)

pub returns : goal.returns
unfolding read_version
returns c =
    (λ bytes t next. rw (gate bytes t c.args.p c.args.p.version c.is_none.result c.is_none.ensures) (c.in_ok-e.ensures (with_version (stored_file bytes t c.args.p)) next), tt)
