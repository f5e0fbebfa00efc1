use mathlib.Core.Path.{refl}
use Rattle.edition.specs.Edition.{edition_numbered, is_width}
use Rattle.refusal.specs.Lists.{every, first_from}
use Rattle.arithmetic.specs.Rules.{arity, joins, cuts, typed}
use Rattle.text.specs.Bytes.{same, front_of, is_space, is_line_feed, is_carriage_return, is_allowed, is_digit, is_letter, is_name_byte}
use Rattle.text.specs.Lines.{terminator_length, content_of, line_length, line_of, lines_from, token_of, tokens_from, leads}
use Rattle.text.specs.Spelling.{is_name, is_numeral, decimal_from, leading_zero, is_type, up_to, behind}
use Rattle.text.specs.Reading.{read_any_line, read_lines, read_text}
use Rattle.constraint.specs.File.{variable_named, width_at}
use Rattle.constraint.specs.TypeRules.{rule_word, result_width, is_constant, constant_rule, is_predicate, predicate_rule, well_typed}
use Rattle.spelling.specs.Operators.{bitwise_spellings, predicate_spellings, arithmetic_spellings, shift_and_cast_spellings, spellings, operator_spelt}
use Rattle.constraint.specs.Read.{in_header, read_single, version_of, read_version, declare, declare_all, read_declarations, read_variable, read_constant, read_operand, next_operand, read_operands, read_operation, next_output, read_statement, kind_of, read_as, read_line, read_file}
use Rattle.reader.specs.Edges.{edges}
use Rattle.reader.proofs.claims.edges_hold.Goals as goal

-- The edges hold by computation.
pub returns : goal.returns
unfolding edition_numbered is_width every first_from arity joins cuts typed same front_of is_space is_line_feed is_carriage_return is_allowed is_digit is_letter is_name_byte terminator_length content_of line_length line_of lines_from token_of tokens_from leads is_name is_numeral decimal_from leading_zero is_type up_to behind read_any_line read_lines read_text variable_named width_at rule_word result_width is_constant constant_rule is_predicate predicate_rule well_typed bitwise_spellings predicate_spellings arithmetic_spellings shift_and_cast_spellings spellings operator_spelt in_header read_single version_of read_version declare declare_all read_declarations read_variable read_constant read_operand next_operand read_operands read_operation next_output read_statement kind_of read_as read_line read_file edges
returns c = record { replies = refl; reduced = refl }
