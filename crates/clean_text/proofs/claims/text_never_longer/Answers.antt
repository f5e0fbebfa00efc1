use Rattle.clean_text.proofs.NeverLonger.{text_never_longer}
use Rattle.clean_text.proofs.claims.text_never_longer.Goals as goal

pub returns : goal.returns
returns c = text_never_longer
