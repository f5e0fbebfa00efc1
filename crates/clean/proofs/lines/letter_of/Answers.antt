use Rattle.clean.proofs.LineLaws.{letter_absent, letter_there}
use Rattle.clean.proofs.lines.letter_of.Goals as goal

pub returns-then-head-eq-ABSENT : goal.returns-then-head-eq-ABSENT
returns-then-head-eq-ABSENT c body = letter_absent _ body c.if-head-eq-ABSENT.true

pub returns-else-head-eq-ABSENT : goal.returns-else-head-eq-ABSENT
returns-else-head-eq-ABSENT c body = letter_there _ body c.if-head-eq-ABSENT.false
