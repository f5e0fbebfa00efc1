use mathlib.Core.Path.{refl}
use Rattle.spear.specs.Pack.{verdict_word}
use Rattle.spear.proofs.packing.verdict_word.Goals as goal

pub returns : goal.returns
unfolding verdict_word
returns c = refl
