-- The case of the scope document, by computation. Assumes nothing.
use mathlib.Core.Path.{refl}
use Rattle.edition.specs.Edition.{edition_numbered, is_width}
use Rattle.refusal.specs.Lists.{every, first_from, how_many}
use Rattle.arithmetic.specs.Rules.{arity, widths_hold, joins, typed}
use Rattle.arithmetic.specs.Meaning.{value_of, meaning}
use Rattle.text.specs.Bytes.{same, front_of, is_space, is_line_feed, is_carriage_return, is_allowed, is_digit, is_letter, is_name_byte}
use Rattle.text.specs.Lines.{terminator_length, content_of, line_length, line_of, lines_from, token_of, tokens_from, leads}
use Rattle.text.specs.Spelling.{is_name, is_numeral, decimal_from, leading_zero, is_type, up_to, behind}
use Rattle.text.specs.Reading.{read_any_line, read_lines, read_text}
use Rattle.constraint.specs.File.{variable_named, width_at, operand_word, target}
use Rattle.constraint.specs.TypeRules.{rule_word, result_width, constant_rule, predicate_rule, well_typed}
use Rattle.spelling.specs.Operators.{bitwise_spellings, predicate_spellings, arithmetic_spellings, shift_and_cast_spellings, spellings, operator_spelt}
use Rattle.constraint.specs.Read.{in_header, read_single, version_of, read_version, declare, declare_all, read_declarations, read_variable, read_operand, next_operand, read_operands, read_operation, next_output, read_statement, kind_of, read_as, read_line, read_file}
use Rattle.judge.specs.Judge.{result_of, judge, column_of, first_verdict, overall_of}
use Rattle.answer.specs.Read as answer
use Rattle.tables.specs.Report.{answering}
use Rattle.printing.specs.Digits.{digits_in, digits}
use Rattle.printing.specs.RefusalText.{refusal_text}
use Rattle.report.specs.Text.{overall_text, tally_text, report_text}
use Rattle.report.specs.Claims.{CaseWhole}

pub case_whole : CaseWhole
unfolding edition_numbered is_width every first_from how_many arity widths_hold joins typed value_of meaning same front_of is_space is_line_feed is_carriage_return is_allowed is_digit is_letter is_name_byte terminator_length content_of line_length line_of lines_from token_of tokens_from leads is_name is_numeral decimal_from leading_zero is_type up_to behind read_any_line read_lines read_text variable_named width_at operand_word target rule_word result_width constant_rule predicate_rule well_typed bitwise_spellings predicate_spellings arithmetic_spellings shift_and_cast_spellings spellings operator_spelt in_header read_single version_of read_version declare declare_all read_declarations read_variable read_operand next_operand read_operands read_operation next_output read_statement kind_of read_as read_line read_file result_of judge column_of first_verdict overall_of answer.solution_of answer.read_solution answer.setting_of answer.read_setting answer.read_settings answer.read_values answer.answer_kind answer.read_answer_as answer.read_answer_line answer.all_set answer.read_answer answering digits_in digits refusal_text overall_text tally_text report_text
case_whole = record { violated = refl; satisfied = refl; refused = refl }
