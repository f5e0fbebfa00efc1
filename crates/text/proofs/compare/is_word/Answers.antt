use mathlib.Core.Path.{◌∙◌}
use lib.Seq.{take-length}
use Rattle.text.proofs.compare.is_word.Goals as goal

pub returns : goal.returns
returns c = c.same_at.ensures ∙ rw take-length
