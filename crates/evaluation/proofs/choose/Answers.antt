use Rattle.std.proofs.Common.{eq-eqb, ne_eqb}
use Rattle.evaluation.proofs.choose.Goals as goal

pub returns-then-a-eq1 : goal.returns-then-a-eq1
returns-then-a-eq1 c = rw (eq-eqb c.args.a 1 c.if-a-eq1.true)

pub returns-else-a-eq1 : goal.returns-else-a-eq1
returns-else-a-eq1 c = rw (ne_eqb c.args.a 1 c.if-a-eq1.false)
