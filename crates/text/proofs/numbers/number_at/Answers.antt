use mathlib.Core.Path.{◌∙◌}
use Rattle.text.proofs.NumberLaws.{number_other, number_whole}
use Rattle.text.proofs.numbers.number_at.Goals as goal

pub returns-then-stop-text : goal.returns-then-stop-text
returns-then-stop-text c = let a = c.args in
    number_other a.most a.text.now a.at _ c.requires c.digits_at-digits.ensures.1 c.if-stop-text.true

pub returns : goal.returns
returns c = let a = c.args in
    c.within_digits.ensures ∙ number_whole a.most a.text.now a.at _ c.requires c.digits_at-digits.ensures.1 c.if-stop-text.false _ c.digits_at-digits.ensures.0
