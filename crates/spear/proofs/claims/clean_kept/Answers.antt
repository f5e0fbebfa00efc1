use Rattle.spear.proofs.KeptLaws.{clean_kept}
use Rattle.spear.proofs.claims.clean_kept.Goals as goal

pub returns : goal.returns
returns c = clean_kept
