use Rattle.tables.proofs.ExampleLaws.{not_all_refused}
use Rattle.tables.proofs.claims.not_all_refused.Goals as goal

pub returns : goal.returns
returns c = not_all_refused
