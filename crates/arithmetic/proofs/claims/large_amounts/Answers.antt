use Rattle.arithmetic.proofs.ReadingLaws.{shifted_out}
use Rattle.arithmetic.proofs.claims.large_amounts.Goals as goal

pub returns : goal.returns
returns c = shifted_out
