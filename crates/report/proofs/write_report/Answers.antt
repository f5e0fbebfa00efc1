use Rattle.report.proofs.ReportLaws.{report_fits, report_written_lem}
use Rattle.report.proofs.write_report.Goals as goal

pub put_report-requires : goal.put_report-requires
put_report-requires c = report_fits _ _ c.told-room

pub put_refused-requires : goal.put_refused-requires
put_refused-requires c = report_fits _ _ c.told-room

pub returns-in-Ok : goal.returns-in-Ok
returns-in-Ok c = rw c.in-Ok.is (report_written_lem _ c.put_report.ensures)

pub returns-in-Err : goal.returns-in-Err
returns-in-Err c = rw c.in-Err.is (report_written_lem _ c.put_refused.ensures)
