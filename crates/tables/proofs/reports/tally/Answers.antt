use Rattle.tables.proofs.reports.tally.Goals as goal

pub returns : goal.returns
returns c = rw (c.count.ensures, c.count-2.ensures, c.count-3.ensures)
