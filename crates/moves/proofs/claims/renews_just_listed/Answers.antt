use Rattle.moves.proofs.ThroughLaws.{renews_just_listed}
use Rattle.moves.proofs.claims.renews_just_listed.Goals as goal

pub returns : goal.returns
returns c = renews_just_listed
