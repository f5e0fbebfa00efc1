use Rattle.spear.proofs.KeptLaws.{check_kept}
use Rattle.spear.proofs.claims.check_kept.Goals as goal

pub returns : goal.returns
returns c = check_kept
