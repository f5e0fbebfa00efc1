use Prim.Native.Nat.{◌+◌}
use native.Mathlib.Omega.{arith}
use borrow.Author.Tests.{ne_eqb}
use Rattle.arithmetic.specs.Rules.{joins}
use Rattle.arithmetic.proofs.RuleLaws.{joins-sub}
use Rattle.arithmetic.proofs.rules.joins.Goals as goal

pub returns-then-x-k : goal.returns-then-x-k
unfolding joins
returns-then-x-k c = rw (joins-sub c.args.k c.args.x c.args.y c.if-x-k.true)

pub returns-else-x-k : goal.returns-else-x-k
unfolding joins
returns-else-x-k c = rw (ne_eqb c.args.k (c.args.x + c.args.y) (omega arith))
