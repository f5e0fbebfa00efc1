use Prim.Native.Nat.{◌≤◌}
use mathlib.Core.Path.{◌≡◌, sym}
use lib.ListN.{length, take}
use lib.Seq.{length-take-le}
use Rattle.std.proofs.lemmas.Result.{err_from_is_err_and}
use Rattle.refusal.specs.Result.{Ok}
use Rattle.tables.specs.Report.{tally_of, report_outcome}
use Rattle.tables.proofs.ReportLaws.{report_tallied, report_refused}
use Rattle.tables.proofs.reports.report.Goals as goal
use Rattle.tables.proofs.reports.report.Goals.{In_ok-overall}

-- the verdicts that are counted are there, and counted
tallied : (c : In_ok-overall) → (c.in_ok-overall.m ≤ length c.check_lines.new.verdicts) × (Ok (record { overall = c.in_ok-overall.overall; tally = tally_of (take c.in_ok-overall.m c.check_lines.new.verdicts) }) ≡ report_outcome c.args.constraint.now c.args.answer.now)
tallied c = report_tallied c.args.constraint.now c.args.answer.now _ _ _ c.in_ok-overall.overall c.in_ok-overall.m c.in_ok-overall.ensures.0 c.in_ok-overall.ensures.1

pub slice_bounds-verdicts-end : goal.slice_bounds-verdicts-end
slice_bounds-verdicts-end c = (tallied (goal.at.slice_bounds-verdicts-end c).In_ok-overall).0

pub slice_bounds-tally-end : goal.slice_bounds-tally-end
slice_bounds-tally-end c = sym (length-take-le _ _ (tallied (goal.at.slice_bounds-tally-end c).In_ok-overall).0)

pub returns-in_err-overall : goal.returns-in_err-overall
returns-in_err-overall c =
    let q = err_from_is_err_and c.from_residual.result c.from_residual.ensures.1 in
    rw (q.1, q.2) (report_refused _ _ _ _ _ _ c.in_err-overall.ensures.0)

pub returns : goal.returns
returns c = rw c.tally.ensures (tallied (goal.at.returns c).In_ok-overall).1
