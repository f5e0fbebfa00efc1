use mathlib.Core.Path.{◌≡◌, sym, ap, ◌∙◌}
use mathlib.Core.Bool.{false}
use lib.ListN.{take}
use Rattle.refusal.specs.declared.Subject.TheVariants.{Answer}
use Rattle.refusal.specs.Result.{accepted_as}
use Rattle.text.specs.Lines.{text_lines}
use Rattle.text.specs.Reading.{read_lines}
use Rattle.store.specs.Tables.{variables_in}
use Rattle.store.proofs.ExitLaws.{exit}
use Rattle.answer.specs.Read.{settings_of, no_settings, read_answer_line}
use Rattle.answer.proofs.ReaderLaws.{nothing_set, answer_long, answer_refused, answer_unsolved, answer_unset, answer_read}
use Rattle.answer.proofs.reading.read_answer.Goals as goal
use Rattle.answer.proofs.reading.read_answer.Goals.{After-read_lines}

pub returns-then-answer-gt-FILE_BYTES : goal.returns-then-answer-gt-FILE_BYTES
returns-then-answer-gt-FILE_BYTES c = let a = c.args in (rw c.of.ensures (answer_long (variables_in a.file.now a.variables.now a.n) a.answer.now c.if-answer-gt-FILE_BYTES.true), c.requires.2)

-- the lines, read from nothing on
told : (c : After-read_lines) → let a = c.args in let xs = variables_in a.file.now a.variables.now a.n in accepted_as (λ s. settings_of s (take a.n c.read_lines.new.settings)) c.read_lines.result ≡ read_lines Answer (read_answer_line xs) (no_settings xs) (text_lines a.answer.now)
told c = let a = c.args in
    let xs = variables_in a.file.now a.variables.now a.n in
    c.read_lines.ensures.0 ∙ ap (λ t. read_lines Answer (read_answer_line xs) t (text_lines a.answer.now)) (nothing_set a.file.now a.variables.now 256 a.n c.requires.0)

pub returns-in_err-solved : goal.returns-in_err-solved
returns-in_err-solved c = let a = c.args in
    (rw (exit c.from_residual.result c.in_err-solved.field-0.0 c.from_residual.ensures) (answer_refused (variables_in a.file.now a.variables.now a.n) a.answer.now c.if-answer-gt-FILE_BYTES.false _ (rw c.in_err-solved.was at (told (goal.at.returns-in_err-solved c).After-read_lines))), c.requires.2)

pub returns-then-not-solved : goal.returns-then-not-solved
returns-then-not-solved c = let a = c.args in
    (rw c.of-then-not-solved.ensures (answer_unsolved (variables_in a.file.now a.variables.now a.n) a.answer.now c.if-answer-gt-FILE_BYTES.false _ (rw c.in_ok-solved.was at (told (goal.at.returns-then-not-solved c).After-read_lines)) c.if-not-solved.true), c.requires.2)

pub returns-then-not-all_set : goal.returns-then-not-all_set
returns-then-not-all_set c = let a = c.args in
    (rw c.of-then-not-all_set.ensures (answer_unset (variables_in a.file.now a.variables.now a.n) a.answer.now c.if-answer-gt-FILE_BYTES.false _ (rw c.in_ok-solved.was at (told (goal.at.returns-then-not-all_set c).After-read_lines)) c.if-not-solved.false (rw c.if-not-all_set.true at c.all_set.ensures.0)), c.all_set.ensures.1)

pub returns : goal.returns
returns c = let a = c.args in
    (answer_read (variables_in a.file.now a.variables.now a.n) a.answer.now c.if-answer-gt-FILE_BYTES.false _ (rw c.in_ok-solved.was at (told (goal.at.returns c).After-read_lines)) c.if-not-solved.false _ (rw c.if-not-all_set.false at c.all_set.ensures.0), c.all_set.ensures.1)
