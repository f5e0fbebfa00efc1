use Rattle.tables.proofs.RepliesLaws.{one_reply}
use Rattle.tables.proofs.claims.one_reply.Goals as goal

pub returns : goal.returns
returns c = one_reply
