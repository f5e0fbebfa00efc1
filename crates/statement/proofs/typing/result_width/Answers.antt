use mathlib.Core.Path.{◌∙◌}
use Rattle.statement.proofs.TypingLaws.{result_absent, result_there}
use Rattle.statement.proofs.typing.result_width.Goals as goal

pub returns-then-head-eq-ABSENT : goal.returns-then-head-eq-ABSENT
returns-then-head-eq-ABSENT c = λ xs body fits. result_absent xs c.args.head body c.if-head-eq-ABSENT.true

pub returns-else-head-eq-ABSENT : goal.returns-else-head-eq-ABSENT
returns-else-head-eq-ABSENT c = λ xs body fits. c.head_width.ensures ∙ result_there xs c.args.head body fits c.if-head-eq-ABSENT.false
