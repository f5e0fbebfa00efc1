-- Changes that do nothing, always or but for the first, do not meet demand 3: one switch is flipped up and down again. Assumes nothing.
use Prim.Native.Nat.{ℕ, suc}
use mathlib.Core.Path.{◌≡◌, refl, sym, ◌∙◌}
use mathlib.Core.List.{List, [], ◌∷◌}
use Rattle.std.specs.Prelude.{None, Some}
use native.Mathlib.Omega.{arith}
use lib.ListN.{take-append-drop}
use Rattle.edition.specs.Edition.{edition10, edition_numbered, is_width}
use Rattle.refusal.specs.Lists.{every, first_from}
use Rattle.refusal.specs.Result.{Ok}
use Rattle.refusal.specs.SubjectWords.{ascii}
use Rattle.refusal.proofs.ResultLaws.{never}
use Rattle.text.specs.Bytes.{same, front_of, is_space, is_line_feed, is_carriage_return, is_allowed, is_digit, is_letter, is_name_byte}
use Rattle.text.specs.Lines.{terminator_length, content_of, line_length, line_of, lines_from, token_of, tokens_from, leads}
use Rattle.text.specs.Spelling.{is_name, is_numeral, decimal_from, leading_zero, is_type, up_to, behind}
use Rattle.text.specs.Reading.{read_any_line, read_lines, read_text}
use Rattle.spelling.specs.Operators.{bitwise_spellings, predicate_spellings, arithmetic_spellings, shift_and_cast_spellings, spellings, operator_spelt}
use Rattle.constraint.specs.File.{File, variable_named, width_at}
use Rattle.constraint.specs.Read.{in_header, read_single, version_of, read_version, declare, declare_all, read_declarations, kind_of, read_as, read_line, read_file}
use Rattle.judge.specs.declared.Overall.TheVariants.{Satisfied}
use Rattle.judge.specs.Judge.{column_of, first_verdict, overall_of}
use Rattle.judge.specs.InUse.{Tables, tables_of, tables_room}
use Rattle.answer.specs.Read as answer
use Rattle.tables.specs.Check.{checking_for, checking}
use Rattle.moves.specs.Gate.{changing, change_fits, entitled}
use Rattle.moves.specs.Run.{Turn, ChangeCall, turn_outcome, outcomes, tables_after, model_row}
use Rattle.moves.specs.WholeRun.{AcceptedCheck, OfRun, DoesNothing, NotIdle, NotOnlyFirst}

-- ---- a file of one switch, and an answer that leaves it down
abbrev switch : List ℕ
switch = ascii "v 1.0\nd a:i1\n"

abbrev switch_down : List ℕ
switch_down = ascii "s SATISFIABLE\nv a=0\n"

abbrev switch_file : File
switch_file = record { version = Some edition10; expectation = None; variables = record { name = ascii "a"; width = 1 } ∷ []; lines = [] }

switch_read : read_file switch ≡ Ok switch_file
unfolding edition_numbered is_width every first_from same front_of is_space is_line_feed is_carriage_return is_allowed is_digit is_letter is_name_byte terminator_length content_of line_length line_of lines_from token_of tokens_from leads is_name is_numeral decimal_from leading_zero is_type up_to behind read_any_line read_lines read_text variable_named bitwise_spellings predicate_spellings arithmetic_spellings shift_and_cast_spellings spellings operator_spelt in_header read_single version_of read_version declare declare_all read_declarations kind_of read_as read_line read_file
switch_read = refl

down_read : answer.read_answer switch_file.variables switch_down ≡ Ok (0 ∷ [])
unfolding every first_from same front_of is_space is_line_feed is_carriage_return is_allowed is_digit is_letter is_name_byte terminator_length content_of line_length line_of lines_from token_of tokens_from leads is_name is_numeral decimal_from up_to behind read_any_line read_lines read_text variable_named width_at bitwise_spellings predicate_spellings arithmetic_spellings shift_and_cast_spellings spellings operator_spelt answer.solution_of answer.read_solution answer.setting_of answer.read_setting answer.read_settings answer.read_values answer.answer_kind answer.read_answer_as answer.read_answer_line answer.all_set answer.read_answer
down_read = refl

-- the tables before and after the check, and with the switch up
abbrev switch_at : ℕ → Tables
switch_at v = tables_of (v ∷ []) [] []

switch_checked : AcceptedCheck switch switch_down (switch_at 0) switch_file (0 ∷ []) (switch_at 0)
unfolding checking checking_for tables_room column_of first_verdict overall_of first_from
switch_checked = record { file_is_read = switch_read; answer_is_read = down_read; overall = Satisfied; call = rw (switch_read, down_read) }

-- ---- two changes of it, lent the whole tables
abbrev flip : ℕ → Turn
flip v = record { call = changing 0 v None; lent = record { values = 1; verdicts = 0; results = 0 } }

flip_of_run : (v : ℕ) → OfRun switch_file (switch_at 0) (flip v)
flip_of_run v = record { within = record { values = omega arith; verdicts = omega arith; results = omega arith }; index = tt }

-- a call that does nothing, lent the first entries, leaves the whole tables
idle_turn : (change : ChangeCall) → DoesNothing change → (constraint : List ℕ) (t : Tables) (u : Turn) → (turn_outcome change constraint t u).tables ≡ t
idle_turn change idle constraint t u = rw (idle constraint _ u.call, take-append-drop u.lent.values t.values, take-append-drop u.lent.verdicts t.verdicts, take-append-drop u.lent.results t.results)

-- ---- the second change does nothing, but the model's puts the switch down
pub not_only_first : NotOnlyFirst
unfolding outcomes tables_after model_row entitled tables_room change_fits width_at column_of
not_only_first calls meets idle =
    let one = turn_outcome (calls 0) switch (switch_at 0) (flip 1) in
    let up : one.tables ≡ switch_at 1 = (meets switch switch_down (switch_at 0) switch_file (0 ∷ []) (switch_at 0) (flip 1 ∷ []) switch_checked (flip_of_run 1, tt)).tables_are in
    let down : (turn_outcome (calls 1) switch one.tables (flip 0)).tables ≡ switch_at 0 = (meets switch switch_down (switch_at 0) switch_file (0 ∷ []) (switch_at 0) (flip 1 ∷ flip 0 ∷ []) switch_checked (flip_of_run 1, (flip_of_run 0, tt))).tables_are in
    let kept = idle_turn (calls 1) (idle 0) switch one.tables (flip 0) in
    never (cc (sym up ∙ sym kept ∙ down))

pub not_idle : NotIdle
not_idle calls meets idle = not_only_first calls meets λ n. idle (suc n)
