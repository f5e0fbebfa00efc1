use Rattle.arithmetic.proofs.NumberLaws.{give_back}
use Rattle.arithmetic.proofs.claims.numbers_give_back.Goals as goal

pub returns : goal.returns
returns c = give_back
