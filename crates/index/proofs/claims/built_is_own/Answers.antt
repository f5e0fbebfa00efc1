use Rattle.index.proofs.BuiltLaws.{built_is_own}
use Rattle.index.proofs.claims.built_is_own.Goals as goal

pub returns : goal.returns
returns c = built_is_own
