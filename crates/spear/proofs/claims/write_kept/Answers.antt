use Rattle.spear.proofs.KeptLaws.{write_kept}
use Rattle.spear.proofs.claims.write_kept.Goals as goal

pub returns : goal.returns
returns c = write_kept
