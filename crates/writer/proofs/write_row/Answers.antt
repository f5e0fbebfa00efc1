use mathlib.Core.Path.{ap}
use native.Mathlib.Omega.{arith}
use Rattle.refusal.specs.Result.{Err}
use Rattle.store.specs.Tables.{variables_in}
use Rattle.printing.proofs.OutputLaws.{text_refused, text_written}
use Rattle.writer.specs.Text.{answer_text}
use Rattle.writer.proofs.write_row.Goals as goal

pub returns-then-output-length : goal.returns-then-output-length
returns-then-output-length c = let a = c.args in
    text_refused (answer_text (variables_in a.file.now a.variables.now a.n) a.row.now) _ c.answer_length-length.ensures c.if-output-length.true (ap Err c.of.ensures)

pub put_answer-requires : goal.put_answer-requires
put_answer-requires c = (c.requires.1, c.requires.2, omega (arith, c.answer_length-length.ensures))

pub returns : goal.returns
returns c = text_written _ _ c.answer_length-length.ensures c.if-output-length.false c.put_answer.ensures
