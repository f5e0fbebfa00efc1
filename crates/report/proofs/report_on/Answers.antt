use Rattle.report.proofs.report_on.Goals as goal

pub returns : goal.returns
returns c = rw c.report.ensures at c.write_report.ensures
