use Rattle.std.proofs.Common.{◌∙◌, [], ap, arith, get_or}
use Rattle.arithmetic.proofs.NumberLaws.{number_most}
use Rattle.spelling.specs.Operators.{spellings, bitwise_spellings, predicate_spellings, arithmetic_spellings, shift_and_cast_spellings}
use Rattle.spelling.proofs.SymbolLaws.{words, at_number}
use Rattle.spelling.proofs.symbol_of.Goals as goal

pub spelling_at-requires : goal.spelling_at-requires
spelling_at-requires c = rw c.operator_number.ensures (let h = number_most c.args.op in omega arith)

-- the table has the spellings of the definition, in the order of the numbers
pub returns : goal.returns
unfolding spellings bitwise_spellings predicate_spellings arithmetic_spellings shift_and_cast_spellings
returns c e = c.spelling_at.ensures ∙ ap (λ n. get_or words n []) c.operator_number.ensures ∙ at_number e c.args.op []
