use Rattle.moves.proofs.change.effect.Goals as goal

pub returns : goal.returns
returns c = rw c.differing_bits.ensures
