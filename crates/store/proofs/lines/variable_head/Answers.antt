use native.Mathlib.Omega.{arith}
use Rattle.store.specs.Tables.{head_width}
use Rattle.store.proofs.lines.variable_head.Goals as goal

pub overflow_add-result : goal.overflow_add-result
unfolding head_width
overflow_add-result c = omega (arith, c.constant_head.ensures)
