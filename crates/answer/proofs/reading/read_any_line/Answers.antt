use mathlib.Core.Path.{sym, ◌∙◌}
use lib.ListN.{take}
use Rattle.refusal.specs.declared.Subject.TheVariants.{Answer}
use Rattle.text.proofs.LineLaws.{not_at_end}
use Rattle.text.proofs.ReadingLaws.{fine_blank, fine_line}
use Rattle.store.specs.Tables.{variables_in}
use Rattle.answer.specs.Read.{settings_of, read_answer_line}
use Rattle.answer.proofs.reading.read_any_line.Goals as goal

pub returns-then-all : goal.returns-then-all
returns-then-all c = (λ next. fine_blank Answer (read_answer_line (variables_in c.args.file.now c.args.variables.now c.args.n)) (settings_of c.args.solved (take c.args.n c.args.settings.now)) c.args.line.now c.args.at next c.requires.4 (sym c.all.ensures ∙ c.if-all.true), c.requires.3)

pub read_line-requires : goal.read_line-requires
read_line-requires c = (not_at_end c.args.line.now c.args.at (sym c.all.ensures ∙ c.if-all.false), c.requires.1, c.requires.2, c.requires.3)

pub returns : goal.returns
returns c = (λ next. c.read_line.ensures.0 next ∙ fine_line Answer (read_answer_line (variables_in c.args.file.now c.args.variables.now c.args.n)) (settings_of c.args.solved (take c.args.n c.args.settings.now)) c.args.line.now c.args.at next c.requires.4 (sym c.all.ensures ∙ c.if-all.false), c.read_line.ensures.1)
