use Rattle.spear.proofs.CodeLaws.{codes_are}
use Rattle.spear.proofs.claims.codes_are.Goals as goal

pub returns : goal.returns
returns c = codes_are
