use mathlib.Core.Path.{◌∙◌}
use lib.ListN.{take}
use Rattle.store.specs.Tables.{variables_in}
use Rattle.text.specs.Scan.{line_at}
use Rattle.answer.specs.declared.AnswerLine.TheVariants.{OfComment, OfSolution, OfValues, OfNoKind}
use Rattle.answer.specs.Read.{settings_of, read_answer_as}
use Rattle.answer.proofs.ReaderLaws.{of_kind}
use Rattle.answer.proofs.reading.read_line.Goals as goal

pub returns-in-OfComment : goal.returns-in-OfComment
unfolding read_answer_as
returns-in-OfComment c = (λ next. of_kind OfComment (variables_in c.args.file.now c.args.variables.now c.args.n) (settings_of c.args.solved (take c.args.n c.args.settings.now)) (line_at c.args.line.now c.args.at next) c.kind_of.ensures c.in-OfComment.is, c.requires.3)

pub returns-in-OfSolution : goal.returns-in-OfSolution
unfolding read_answer_as
returns-in-OfSolution c = (λ next. c.solution_line.ensures (take c.args.n c.args.settings.now) next ∙ of_kind OfSolution (variables_in c.args.file.now c.args.variables.now c.args.n) (settings_of c.args.solved (take c.args.n c.args.settings.now)) (line_at c.args.line.now c.args.at next) c.kind_of.ensures c.in-OfSolution.is, c.requires.3)

pub returns-in-OfValues : goal.returns-in-OfValues
unfolding read_answer_as
returns-in-OfValues c = (λ next. c.value_line.ensures.0 next ∙ of_kind OfValues (variables_in c.args.file.now c.args.variables.now c.args.n) (settings_of c.args.solved (take c.args.n c.args.settings.now)) (line_at c.args.line.now c.args.at next) c.kind_of.ensures c.in-OfValues.is, c.value_line.ensures.1)

pub returns-in-OfNoKind : goal.returns-in-OfNoKind
unfolding read_answer_as
returns-in-OfNoKind c = (λ next. rw c.of.ensures (of_kind OfNoKind (variables_in c.args.file.now c.args.variables.now c.args.n) (settings_of c.args.solved (take c.args.n c.args.settings.now)) (line_at c.args.line.now c.args.at next) c.kind_of.ensures c.in-OfNoKind.is), c.requires.3)
