use Rattle.tables.proofs.ExampleLaws.{not_all_satisfied}
use Rattle.tables.proofs.claims.not_all_satisfied.Goals as goal

pub returns : goal.returns
returns c = not_all_satisfied
