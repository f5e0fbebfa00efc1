use mathlib.Core.Path.{sym, ◌∙◌}
use Rattle.text.proofs.numbers.width.Goals as goal

pub returns-then-is_width : goal.returns-then-is_width
returns-then-is_width c = rw (sym c.is_width.ensures ∙ c.if-is_width.true)

pub returns-else-is_width : goal.returns-else-is_width
returns-else-is_width c = rw (sym c.is_width.ensures ∙ c.if-is_width.false)
