use Rattle.moves.proofs.TouchLaws.{refused_touches_nothing}
use Rattle.moves.proofs.claims.refused_touches_nothing.Goals as goal

pub returns : goal.returns
returns c = refused_touches_nothing
