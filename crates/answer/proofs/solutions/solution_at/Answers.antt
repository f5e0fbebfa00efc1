use mathlib.Core.Path.{sym, ◌∙◌}
use Rattle.answer.specs.Read.{solution_of}
use Rattle.answer.proofs.solutions.solution_at.Goals as goal

pub returns-then-is_word : goal.returns-then-is_word
unfolding solution_of
returns-then-is_word c = rw (rw c.satisfiable.ensures at (sym c.is_word.ensures ∙ c.if-is_word.true))

pub returns-then-is_word-2 : goal.returns-then-is_word-2
unfolding solution_of
returns-then-is_word-2 c = rw (rw c.satisfiable.ensures at (sym c.is_word.ensures ∙ c.if-is_word.false), rw (c.is_word-2.ensures, c.is_word-3.ensures, c.unsatisfiable.ensures, c.unknown.ensures) at c.if-is_word-2.true)

pub returns : goal.returns
unfolding solution_of
returns c = rw (rw c.satisfiable.ensures at (sym c.is_word.ensures ∙ c.if-is_word.false), rw (c.is_word-2.ensures, c.is_word-3.ensures, c.unsatisfiable.ensures, c.unknown.ensures) at c.if-is_word-2.false)
