use Rattle.spear.proofs.KeptLaws.{index_kept}
use Rattle.spear.proofs.claims.index_kept.Goals as goal

pub returns : goal.returns
returns c = index_kept
