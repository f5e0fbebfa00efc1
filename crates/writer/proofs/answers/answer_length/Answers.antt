use Rattle.writer.proofs.AnswerLaws.{answer_alone, answer_more}
use Rattle.writer.proofs.answers.answer_length.Goals as goal

pub returns-then-n-eq0 : goal.returns-then-n-eq0
returns-then-n-eq0 c = answer_alone _ _ _ _ c.if-n-eq0.true

pub returns : goal.returns
returns c = answer_more _ _ _ _ c.if-n-eq0.false c.settings_length.ensures.0
