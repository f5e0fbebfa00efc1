use Rattle.std.proofs.Common.{sym}
use Rattle.std.proofs.Math.ListN.{get_or-eq_default}
use Rattle.std.proofs.lemmas.List.{get_or_default}
use Rattle.arithmetic.specs.declared.Operator.TheVariants.{Extr}
use Rattle.arithmetic.specs.Numbering.{listed, operator_numbered}
use Rattle.arithmetic.proofs.numbering.operator_numbered.Goals as goal

pub returns-then-n : goal.returns-then-n
unfolding operator_numbered listed
returns-then-n c = get_or_default listed c.args.n _ Extr c.if-n.true

pub returns-else-n : goal.returns-else-n
unfolding operator_numbered listed
returns-else-n c = sym (get_or-eq_default listed Extr c.if-n.false)
