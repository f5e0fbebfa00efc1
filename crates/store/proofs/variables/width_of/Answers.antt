use mathlib.Core.Path.{sym, ◌∙◌}
use Rattle.store.proofs.VariableTableLaws.{width_held, width_none}
use Rattle.store.proofs.variables.width_of.Goals as goal

pub returns-then-i-n : goal.returns-then-i-n
returns-then-i-n c = λ file. c.word_width.ensures ∙ sym (width_held file _ _ _ c.if-i-n.true)

pub returns-else-i-n : goal.returns-else-i-n
returns-else-i-n c = λ file. sym (width_none file _ _ _ c.if-i-n.false)
