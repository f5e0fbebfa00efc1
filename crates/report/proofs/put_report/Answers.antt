use native.Mathlib.Omega.{arith}
use Rattle.report.proofs.ReportLaws.{report_length, put_report}
use Rattle.report.proofs.put_report.Goals as goal

pub put_overall-first-requires : goal.put_overall-first-requires
put_overall-first-requires c = omega (arith, c.requires, report_length c.args.report)

pub put_byte-second-requires : goal.put_byte-second-requires
put_byte-second-requires c = omega (arith, c.requires, report_length c.args.report)

pub put_tally-end-requires : goal.put_tally-end-requires
put_tally-end-requires c = omega (arith, c.requires, report_length c.args.report)

pub put_byte-requires : goal.put_byte-requires
put_byte-requires c = omega (arith, c.requires, report_length c.args.report)

pub returns : goal.returns
returns c = put_report c.args.report c.requires c.put_overall-first.ensures c.put_byte-second.ensures c.put_tally-end.ensures c.put_byte.ensures
