use Rattle.clean_text.proofs.CleanLaws.{text_reads_back}
use Rattle.clean_text.proofs.claims.text_reads_back.Goals as goal

pub returns : goal.returns
returns c = text_reads_back
