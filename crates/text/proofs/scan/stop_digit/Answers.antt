use mathlib.Core.Path.{sym, ◌∙◌}
use native.Mathlib.Omega.{arith}
use Rattle.text.proofs.StopLaws.{digit_clear, digit_set}
use Rattle.text.proofs.scan.stop_digit.Goals as goal

pub returns-then-is_printing : goal.returns-then-is_printing
returns-then-is_printing c = (sym (digit_clear _ (sym c.is_printing.ensures ∙ c.if-is_printing.true)), omega arith)

pub returns-else-is_printing : goal.returns-else-is_printing
returns-else-is_printing c = (sym (digit_set _ (sym c.is_printing.ensures ∙ c.if-is_printing.false)), omega arith)
