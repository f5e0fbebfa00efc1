use mathlib.Core.Path.{refl}
use Rattle.spear.specs.Pack.{refusal_word}
use Rattle.spear.proofs.packing.refusal_word.Goals as goal

pub returns : goal.returns
unfolding refusal_word
returns c = refl
