use mathlib.Core.Path.{refl, ◌∙◌}
use Rattle.judge.proofs.HeadLaws.{target_absent, target_there}
use Rattle.judge.proofs.lines.target.Goals as goal

pub returns-then-head_of-eq-ABSENT : goal.returns-then-head_of-eq-ABSENT
returns-then-head_of-eq-ABSENT c xs f = target_absent _ _ _ _ _ (rw c.head_of.ensures at c.if-head_of-eq-ABSENT.true) xs

pub returns : goal.returns
returns c xs f = c.operand_word.ensures xs f ∙ target_there _ _ _ _ _ _ refl (rw c.head_of.ensures at c.if-head_of-eq-ABSENT.false) xs
