use mathlib.Core.Path.{◌∙◌}
use Rattle.statement.proofs.TypingLaws.{predicate_absent, predicate_there}
use Rattle.statement.proofs.typing.predicate_holds.Goals as goal

pub returns-then-output-eq-ABSENT : goal.returns-then-output-eq-ABSENT
returns-then-output-eq-ABSENT c = λ body. c.is_predicate.ensures ∙ predicate_absent c.args.output body _ _ c.if-output-eq-ABSENT.true

pub returns-else-output-eq-ABSENT : goal.returns-else-output-eq-ABSENT
returns-else-output-eq-ABSENT c = λ body. predicate_there c.args.output body _ _ c.if-output-eq-ABSENT.false
