use Rattle.tables.proofs.ReportedLaws.{reported_exactly}
use Rattle.tables.proofs.claims.reported_exactly.Goals as goal

pub returns : goal.returns
returns c = reported_exactly
