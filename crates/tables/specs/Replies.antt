-- Demand 1: which replies there are to any bytes.
use Rattle.std.specs.Prelude.{ℕ, ◌≤◌, ◌≡◌, true, List, [], ◌∷◌, length}
use Rattle.refusal.specs.declared.Subject.{Subject}
use Rattle.refusal.specs.declared.Subject.TheVariants.{Constraint, Answer, Values, Verdicts, Output, Call, Starts, Lists, Results}
use Rattle.refusal.specs.declared.Fault.{Fault}
use Rattle.refusal.specs.declared.Fault.TheVariants.{TooShort}
use Rattle.refusal.specs.Fault.{is_fault_of}
use Rattle.refusal.specs.Result.{Reply, Ok, Err}
use Rattle.constraint.specs.File.{File}
use Rattle.constraint.specs.Read.{read_file}
use Rattle.constraint.specs.Refusals.{constraint_faults}
use Rattle.judge.specs.declared.Overall.{Overall}
use Rattle.judge.specs.declared.Overall.TheVariants.{Satisfied, Violated, Disregarded}
use Rattle.judge.specs.InUse.{Tables}
use Rattle.answer.specs.Refusals.{answer_faults}
use Rattle.tables.specs.Check.{check_outcome}

-- the faults of the check's refusals, by what they speak of
unfoldable pub faults_of : Subject → List Fault
faults_of Constraint = constraint_faults
faults_of Answer = answer_faults
faults_of Values = TooShort ∷ []
faults_of Verdicts = TooShort ∷ []
faults_of Output = []
faults_of Call = []
faults_of Starts = []
faults_of Lists = []
faults_of Results = TooShort ∷ []

-- a line, from 1, of the file that a constraint file says
pub record LineOfFile (constraint : List ℕ) (n : ℕ) : Type 0 where
  pub file : File
  pub is_read : read_file constraint ≡ Ok file
  pub from : 1 ≤ n
  pub to : n ≤ length file.lines

-- refused with a fault of the list; satisfied; or violated or disregarded, with a line of the file
abbrev pub IsReply : List ℕ → Reply Overall → Type 0
IsReply constraint (Err r) = is_fault_of r.fault (faults_of r.subject) ≡ true
IsReply constraint (Ok Satisfied) = Unit {0}
IsReply constraint (Ok (Violated n)) = LineOfFile constraint n
IsReply constraint (Ok (Disregarded n)) = LineOfFile constraint n

-- "Any bytes at all, as constraints or as answer, get one fixed reply"
abbrev pub OneReply : Type 0
OneReply = (constraint answer : List ℕ) (t : Tables) → IsReply constraint (check_outcome constraint answer t).reply
