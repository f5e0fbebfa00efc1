use native.Mathlib.Omega.{arith}
use Rattle.report.proofs.ReportLaws.{tally_length, put_tally}
use Rattle.report.proofs.put_tally.Goals as goal

pub put_count-lines-requires : goal.put_count-lines-requires
put_count-lines-requires c = omega (arith, c.requires, tally_length c.args.tally)

pub put_count-held-requires : goal.put_count-held-requires
put_count-held-requires c = omega (arith, c.requires, tally_length c.args.tally)

pub put_count-violated-requires : goal.put_count-violated-requires
put_count-violated-requires c = omega (arith, c.requires, tally_length c.args.tally)

pub put_count-requires : goal.put_count-requires
put_count-requires c = omega (arith, c.requires, tally_length c.args.tally)

pub returns : goal.returns
returns c = put_tally c.args.tally c.requires c.put_count-lines.ensures c.put_count-held.ensures c.put_count-violated.ensures c.put_count.ensures
