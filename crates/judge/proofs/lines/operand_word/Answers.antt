use mathlib.Core.Path.{sym, ◌∙◌}
use Rattle.judge.proofs.HeadLaws.{word_variable, word_absent, word_constant}
use Rattle.judge.proofs.lines.operand_word.Goals as goal

pub returns-then-is_variable : goal.returns-then-is_variable
returns-then-is_variable c = let v = sym c.is_variable.ensures ∙ c.if-is_variable.true in
    let h = c.head_of-head.ensures in
    rw (c.value_of.ensures, c.body_of-body.ensures, c.head_width-width.ensures, h) (word_variable _ _ _ _ _ c.requires.3 (rw h at v))

pub returns-then-head-eq-ABSENT : goal.returns-then-head-eq-ABSENT
returns-then-head-eq-ABSENT c = let h = c.head_of-head.ensures in
    rw (c.head_width-width.ensures, h) (word_absent _ _ _ _ _ c.requires.3 (rw h at c.if-head-eq-ABSENT.true))

pub returns : goal.returns
returns c = let v = sym c.is_variable.ensures ∙ c.if-is_variable.false in
    let h = c.head_of-head.ensures in
    rw (c.body_of-body.ensures, c.head_width-width.ensures, h) (word_constant _ _ _ _ _ c.requires.3 (rw h at v) (rw h at c.if-head-eq-ABSENT.false))
