use mathlib.Core.Path.{sym, ◌∙◌}
use Rattle.statement.proofs.TypingLaws.{rule_constant, rule_other}
use Rattle.statement.proofs.typing.rule_word.Goals as goal

pub returns-then-is_constant : goal.returns-then-is_constant
returns-then-is_constant c = λ xs fits. rw c.head_width-width.ensures (rule_constant xs c.args.head c.args.body fits (sym c.is_constant.ensures ∙ c.if-is_constant.true))

pub returns-else-is_constant : goal.returns-else-is_constant
returns-else-is_constant c = λ xs fits. rw c.head_width-width.ensures (rule_other xs c.args.head c.args.body fits (sym c.is_constant.ensures ∙ c.if-is_constant.false))
