use Rattle.text.proofs.TypeLaws.{none_read, type_short, type_colon, type_letter, type_read}
use Rattle.text.proofs.numbers.type_at.Goals as goal

pub returns-then-line-at-lt2 : goal.returns-then-line-at-lt2
returns-then-line-at-lt2 c = let a = c.args in none_read _ _ _ _ c.no_type.ensures (type_short a.line.now a.at c.if-line-at-lt2.true)

pub returns-then-line-at-ne58 : goal.returns-then-line-at-ne58
returns-then-line-at-ne58 c = let a = c.args in none_read _ _ _ _ c.no_type-then-line-at-ne58.ensures (type_colon a.line.now a.at c.if-line-at-lt2.false c.if-line-at-ne58.true)

pub returns-then-line-letter-ne105 : goal.returns-then-line-letter-ne105
returns-then-line-letter-ne105 c = let a = c.args in none_read _ _ _ _ c.no_type-then-line-letter-ne105.ensures (type_letter a.line.now a.at c.if-line-at-lt2.false c.if-line-at-ne58.false c.if-line-letter-ne105.true)

pub returns : goal.returns
returns c = let a = c.args in type_read a.line.now a.at c.if-line-at-lt2.false c.if-line-at-ne58.false c.if-line-letter-ne105.false _ _ c.width_at.ensures.0 c.width_at.ensures.1
