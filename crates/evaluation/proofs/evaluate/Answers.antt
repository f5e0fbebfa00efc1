use Rattle.arithmetic.proofs.PlaceLaws.{inverted_lt}
use Rattle.evaluation.proofs.evaluate.Goals as goal

pub combine-requires-in-Implies : goal.combine-requires-in-Implies
combine-requires-in-Implies c = let g = rw c.in-Implies.is at c.requires in
    record { least = g.least; most = g.most; bound = rw c.invert-in-Implies.ensures (inverted_lt c.args.k c.args.a.value g.bound); bound₂ = g.bound₂ }
