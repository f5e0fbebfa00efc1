use mathlib.Core.Path.{refl}
use Rattle.text.specs.Bytes.{is_letter}
use Rattle.text.proofs.scan.is_letter.Goals as goal

-- `is_letter` meets its contract: the code is the definition.
pub returns : goal.returns
unfolding is_letter
returns c = refl
