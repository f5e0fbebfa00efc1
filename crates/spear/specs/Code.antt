-- The one number that a C program gets: "0 satisfied, 1 violated, 2 disregarded, or 100 plus the refusal number".
use Rattle.std.specs.Prelude.{ℕ, ◌+◌, ◌≤◌, ◌≡◌, ◌↔◌, List}
use Rattle.refusal.specs.Fault.{number_of}
use Rattle.refusal.specs.Result.{Reply, Ok, Err}
use Rattle.judge.specs.Judge.{overall_number}
use Rattle.tables.specs.declared.Report.{Report}
use Rattle.tables.specs.Report.{report_outcome}
use Rattle.tables.specs.Claims.{Satisfies, any_room}

-- the number of a report or a refusal
abbrev pub code_of : Reply Report → ℕ
code_of (Ok report) = overall_number report.overall
code_of (Err r) = 100 + number_of r.fault

-- SPEAR_CHECK: the contract of the call
abbrev pub check_code : List ℕ → List ℕ → ℕ
check_code constraint answer = code_of (report_outcome constraint answer)

-- WHAT IS CLAIMED OF IT

-- it is 0 exactly when the answer satisfies the constraint file
abbrev pub ZeroExactly : Type 0
ZeroExactly = (constraint answer : List ℕ) → (check_code constraint answer ≡ 0) ↔ Satisfies constraint answer any_room

-- it is 0, 1 or 2, or 101 to 120
pub data IsCode (n : ℕ) : Type 0 where
  of_verdict : n ≤ 2 → IsCode n
  of_refusal : 101 ≤ n → n ≤ 120 → IsCode n

abbrev pub CodesAre : Type 0
CodesAre = (constraint answer : List ℕ) → IsCode (check_code constraint answer)
