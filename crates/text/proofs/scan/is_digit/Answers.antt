use mathlib.Core.Path.{refl}
use Rattle.text.specs.Bytes.{is_digit}
use Rattle.text.proofs.scan.is_digit.Goals as goal

-- `is_digit` meets its contract: the code is the definition.
pub returns : goal.returns
unfolding is_digit
returns c = refl
