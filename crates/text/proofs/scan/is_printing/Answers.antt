use mathlib.Core.Path.{refl}
use Rattle.text.proofs.scan.is_printing.Goals as goal

-- `is_printing` meets its contract: the code is the definition.
pub returns : goal.returns
returns c = refl
