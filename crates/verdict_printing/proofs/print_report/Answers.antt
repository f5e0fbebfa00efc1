-- A report is written within its room.
use Rattle.std.proofs.Common.{sym}
use Rattle.std.proofs.lemmas.List.{length-take-le}
use Rattle.report.proofs.ReportLaws.{written_within}
use Rattle.verdict_printing.proofs.print_report.Goals as goal

pub slice_bounds-room-end : goal.slice_bounds-room-end
slice_bounds-room-end g c = written_within _ _ c.report_on-n.ensures

pub slice_bounds-write_all-end : goal.slice_bounds-write_all-end
slice_bounds-write_all-end g c = sym (length-take-le c.report_on-n.result c.report_on-n.new.room (written_within _ _ c.report_on-n.ensures))
