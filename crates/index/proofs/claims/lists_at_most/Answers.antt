use Rattle.index.proofs.CountLaws.{lists_at_most}
use Rattle.index.proofs.claims.lists_at_most.Goals as goal

pub returns : goal.returns
returns c = lists_at_most
