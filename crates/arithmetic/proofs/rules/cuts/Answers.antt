use Rattle.arithmetic.specs.Rules.{cuts}
use borrow.Author.Tests.{lt-ltb, le-ltb}
use Rattle.arithmetic.proofs.rules.cuts.Goals as goal

pub returns-then-n-m : goal.returns-then-n-m
unfolding cuts
returns-then-n-m c = rw (lt-ltb c.args.n c.args.m c.if-n-m.true)

pub returns-else-n-m : goal.returns-else-n-m
unfolding cuts
returns-else-n-m c = rw (le-ltb c.args.n c.args.m c.if-n-m.false)
