-- The room holds the text of any verdict.
use Rattle.std.proofs.Common.{sym, arith}
use Rattle.std.proofs.lemmas.List.{length-take-le}
use Rattle.report.proofs.ReportLaws.{overall_bound}
use Rattle.verdict_printing.proofs.print_overall.Goals as goal

pub put_overall-n-requires : goal.put_overall-n-requires
put_overall-n-requires g c = omega (arith, overall_bound c.args.overall)

pub slice_bounds-room-end : goal.slice_bounds-room-end
slice_bounds-room-end g c = omega (arith, overall_bound c.args.overall)

pub slice_bounds-write_all-end : goal.slice_bounds-write_all-end
slice_bounds-write_all-end g c = sym (length-take-le c.put_overall-n.result c.put_overall-n.new.room (omega (arith, overall_bound c.args.overall)))
