use Rattle.report.proofs.CaseLaws.{case_whole}
use Rattle.report.proofs.claims.one_case_whole.Goals as goal

pub returns : goal.returns
returns c = case_whole
