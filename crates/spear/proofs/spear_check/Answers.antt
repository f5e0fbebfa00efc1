use mathlib.Core.Path.{ap, ◌∙◌}
use Rattle.spear.specs.Code.{code_of}
use Rattle.spear.proofs.spear_check.Goals as goal

pub returns : goal.returns
returns c = c.code_of.ensures ∙ ap code_of c.report.ensures
