use Rattle.arithmetic.proofs.DivisionLaws.{unsigned_divisions}
use Rattle.arithmetic.proofs.claims.unsigned_divisions.Goals as goal

pub returns : goal.returns
returns c = unsigned_divisions
