use Rattle.std.proofs.Common.{◌∙◌, sym, true, false}
use Rattle.edition.specs.Edition.{edition10}
use Rattle.spelling.proofs.SpeltLaws.{number_below, word_decides}
use Rattle.spelling.proofs.spelt_by_key.Goals as goal

pub bounds-table-number : goal.bounds-table-number
bounds-table-number c = number_below _ _ c.requires.2 edition10 c.args.text.now c.args.at _ c.key_of.ensures.0 c.key_of.ensures.1

pub returns-then-is_word : goal.returns-then-is_word
returns-then-is_word c e = word_decides _ _ c.requires.2 e c.args.text.now c.args.at _ c.key_of.ensures.0 c.key_of.ensures.1 _ true (sym c.if-is_word.true ∙ c.is_word.ensures)

pub returns-else-is_word : goal.returns-else-is_word
returns-else-is_word c e = word_decides _ _ c.requires.2 e c.args.text.now c.args.at _ c.key_of.ensures.0 c.key_of.ensures.1 _ false (sym c.if-is_word.false ∙ c.is_word.ensures)
