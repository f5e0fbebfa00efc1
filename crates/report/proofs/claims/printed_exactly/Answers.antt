use Rattle.report.proofs.PrintedLaws.{printed_exactly}
use Rattle.report.proofs.claims.printed_exactly.Goals as goal

pub returns : goal.returns
returns c = printed_exactly
