use Rattle.spelling.proofs.SpellsLaws.{spells_exactly}
use Rattle.spelling.proofs.claims.spells_exactly.Goals as goal

pub returns : goal.returns
returns c = spells_exactly
