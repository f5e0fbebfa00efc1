use mathlib.Core.Path.{refl}
use Rattle.spear.specs.Pack.{done_word}
use Rattle.spear.proofs.packing.done_word.Goals as goal

pub returns : goal.returns
unfolding done_word
returns c = refl
