-- What is claimed of the report's text, from the bytes of the two files.
use Rattle.std.specs.Prelude.{ℕ, ◌≡◌, ◌↔◌, List, ◌++◌}
use Rattle.refusal.specs.SubjectWords.{ascii}
use Rattle.tables.specs.Report.{report_outcome}
use Rattle.tables.specs.Claims.{Satisfies, any_room}
use Rattle.report.specs.Text.{report_text}

-- the text of the report on an answer
abbrev pub report_on : List ℕ → List ℕ → List ℕ
report_on constraint answer = report_text (report_outcome constraint answer)

-- DEMAND 2: its first line is `satisfied` exactly when the answer satisfies the constraint file
abbrev pub PrintedExactly : Type 0
PrintedExactly =
    (constraint answer : List ℕ)
    → ((rest : List ℕ) × (report_on constraint answer ≡ ascii "satisfied\n" ++ rest)) ↔ Satisfies constraint answer any_room

-- ONE CASE WHOLE

-- "lines `v 1.0`, `d hi:i16 lo:i16 r:i32`, `c r conc hi lo`, each with LF", and with r:i31
abbrev pub case_map : List ℕ
case_map = ascii "v 1.0\nd hi:i16 lo:i16 r:i32\nc r conc hi lo\n"

abbrev pub narrow_map : List ℕ
narrow_map = ascii "v 1.0\nd hi:i16 lo:i16 r:i31\nc r conc hi lo\n"

-- "Answer `s SATISFIABLE`, then `v hi=17056 lo=17060 r=1118061216`", and with r=1117799076
abbrev pub swapped_answer : List ℕ
swapped_answer = ascii "s SATISFIABLE\nv hi=17056 lo=17060 r=1118061216\n"

abbrev pub good_answer : List ℕ
good_answer = ascii "s SATISFIABLE\nv hi=17056 lo=17060 r=1117799076\n"

pub record CaseWhole : Type 0 where
  pub violated : report_on case_map swapped_answer ≡ ascii "violated 1\nlines 1 held 0 violated 1 disregarded 0\n"
  -- "r=1117799076 gives `satisfied` and held 1"
  pub satisfied : report_on case_map good_answer ≡ ascii "satisfied\nlines 1 held 1 violated 0 disregarded 0\n"
  -- "With r:i31 the report is the one line `refused 15 constraint 32`"
  pub refused : report_on narrow_map swapped_answer ≡ ascii "refused 15 constraint 32\n"
