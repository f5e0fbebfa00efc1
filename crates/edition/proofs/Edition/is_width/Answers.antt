use mathlib.Core.Path.{refl}
use Rattle.edition.specs.Edition.{is_width}
use Rattle.edition.proofs.Edition.is_width.Goals as goal

-- `Edition::is_width` meets its contract: the code is the definition.
pub returns : goal.returns
unfolding is_width
returns c = refl
