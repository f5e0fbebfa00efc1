use Rattle.arithmetic.proofs.ReadingLaws.{reading}
use Rattle.arithmetic.proofs.claims.signed_reading.Goals as goal

pub returns : goal.returns
returns c = reading
