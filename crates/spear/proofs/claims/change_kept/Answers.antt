use Rattle.spear.proofs.KeptLaws.{change_kept}
use Rattle.spear.proofs.claims.change_kept.Goals as goal

pub returns : goal.returns
returns c = change_kept
