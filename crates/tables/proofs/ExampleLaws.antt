-- A check that is satisfied and one that is refused, by computation. Assumes nothing.
use Prim.Native.Nat.{ℕ}
use mathlib.Core.Path.{◌≡◌, refl, sym, ◌∙◌}
use mathlib.Core.List.{List, [], ◌∷◌}
use Rattle.edition.specs.Edition.{edition_numbered, is_width}
use Rattle.refusal.specs.declared.Subject.TheVariants.{Constraint}
use Rattle.refusal.specs.declared.Fault.TheVariants.{MisplacedLine}
use Rattle.refusal.specs.Lists.{every, first_from}
use Rattle.refusal.specs.Result.{Ok, Err, refusal}
use Rattle.refusal.specs.SubjectWords.{ascii}
use Rattle.refusal.proofs.ResultLaws.{never}
use Rattle.arithmetic.specs.Rules.{arity, widths_hold, joins, typed}
use Rattle.arithmetic.specs.Meaning.{value_of, meaning}
use Rattle.text.specs.Bytes.{same, front_of, is_space, is_line_feed, is_carriage_return, is_allowed, is_digit, is_letter, is_name_byte}
use Rattle.text.specs.Lines.{terminator_length, content_of, line_length, line_of, lines_from, token_of, tokens_from, leads}
use Rattle.text.specs.Spelling.{is_name, is_numeral, decimal_from, leading_zero, is_type, up_to, behind}
use Rattle.text.specs.Reading.{read_any_line, read_lines, read_text}
use Rattle.constraint.specs.File.{variable_named, width_at, operand_word, target}
use Rattle.constraint.specs.TypeRules.{rule_word, result_width, constant_rule, predicate_rule, well_typed}
use Rattle.spelling.specs.Operators.{bitwise_spellings, predicate_spellings, arithmetic_spellings, shift_and_cast_spellings, spellings, operator_spelt}
use Rattle.constraint.specs.Read.{in_header, read_single, version_of, read_version, declare, declare_all, read_declarations, read_variable, read_operand, next_operand, read_operands, read_operation, next_output, read_statement, kind_of, read_as, read_line, read_file}
use Rattle.judge.specs.declared.Overall.TheVariants.{Satisfied}
use Rattle.judge.specs.Judge.{result_of, judge, column_of, first_verdict, overall_of}
use Rattle.judge.specs.InUse.{Tables, tables_of, tables_room}
use Rattle.answer.specs.Read as answer
use Rattle.tables.specs.Check.{checking_for, checking, check_outcome}
use Rattle.tables.specs.Claims.{NotAllRefused, NotAllSatisfied}

-- the map of two words, and an answer to it
abbrev example : List ℕ
example = ascii "v 1.0\nd hi:i16 lo:i16 r:i32\nc r conc hi lo\n"

abbrev example_answer : List ℕ
example_answer = ascii "s SATISFIABLE\nv hi=17056 lo=17060 r=1117799076\n"

-- tables that are just long enough, and some with no entry
abbrev example_tables : Tables
example_tables = tables_of (0 ∷ 0 ∷ 0 ∷ []) (0 ∷ []) (0 ∷ [])

abbrev no_tables : Tables
no_tables = tables_of [] [] []

example_satisfied : (check_outcome example example_answer example_tables).reply ≡ Ok Satisfied
unfolding edition_numbered is_width every first_from arity widths_hold joins typed value_of meaning same front_of is_space is_line_feed is_carriage_return is_allowed is_digit is_letter is_name_byte terminator_length content_of line_length line_of lines_from token_of tokens_from leads is_name is_numeral decimal_from leading_zero is_type up_to behind read_any_line read_lines read_text variable_named width_at operand_word target rule_word result_width constant_rule predicate_rule well_typed bitwise_spellings predicate_spellings arithmetic_spellings shift_and_cast_spellings spellings operator_spelt in_header read_single version_of read_version declare declare_all read_declarations read_variable read_operand next_operand read_operands read_operation next_output read_statement kind_of read_as read_line read_file result_of judge column_of tables_room first_verdict overall_of answer.solution_of answer.read_solution answer.setting_of answer.read_setting answer.read_settings answer.read_values answer.answer_kind answer.read_answer_as answer.read_answer_line answer.all_set answer.read_answer checking_for checking
example_satisfied = refl

-- empty files
empty_refused : (check_outcome [] [] no_tables).reply ≡ Err (refusal Constraint MisplacedLine 0)
unfolding read_lines read_text lines_from read_file checking
empty_refused = refl

pub not_all_refused : NotAllRefused
not_all_refused check meets all = let p = all example example_answer example_tables in never (cc (sym p.1 ∙ meets example example_answer example_tables ∙ example_satisfied))

pub not_all_satisfied : NotAllSatisfied
not_all_satisfied check meets all = never (cc (sym (all [] [] no_tables) ∙ meets [] [] no_tables ∙ empty_refused))
