use lib.ListN.{length-set}
use Rattle.store.specs.Tables.{with_operator}
use native.Mathlib.Omega.{arith}
use Rattle.arithmetic.proofs.NumberLaws.{number_most}
use Rattle.store.proofs.lines.put_operator.Goals as goal

pub overflow_cast-heads : goal.overflow_cast-heads
overflow_cast-heads c = rw c.operator_number.ensures (let h = number_most c.args.op in omega arith)

pub returns : goal.returns
unfolding with_operator
returns c = (simp length-set c.requires.0, rw c.operator_number.ensures)
