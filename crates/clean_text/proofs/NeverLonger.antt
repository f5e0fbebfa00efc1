-- The clean text of an accepted file is never longer than the file. Assumes nothing.
use Rattle.plain.proofs.SaysLaws.{reads_exactly}
use Rattle.clean_text.specs.Claims.{TextNeverLonger}
use Rattle.clean_text.proofs.SaysAgain.{never_longer}

pub text_never_longer : TextNeverLonger
text_never_longer bytes f e = never_longer bytes f ((reads_exactly bytes f).0 e)
