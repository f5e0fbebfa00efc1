-- A refused file has a fault of the list. Assumes nothing.
use Prim.Native.Nat.{ℕ}
use mathlib.Core.Path.{◌≡◌}
use mathlib.Core.Bool.{true}
use mathlib.Core.List.{List}
use Rattle.refusal.specs.declared.Refusal.{Refusal}
use Rattle.refusal.specs.Fault.{is_fault_of}
use Rattle.refusal.proofs.RefusesLaws.{Refuses, refuses_also}
use Rattle.constraint.specs.File.{Variable}
use Rattle.constraint.specs.Read.{read_file}
use Rattle.constraint.proofs.FileRefusesLaws.{file_refuses}
use Rattle.answer.specs.Read.{read_answer}
use Rattle.answer.proofs.AnswerRefusesLaws.{answer_refuses}
use Rattle.tables.specs.Replies.{faults_of}

-- the fault is in the list of what the refusal speaks of
abbrev pub Known : Refusal → Type 0
Known x = is_fault_of x.fault (faults_of x.subject) ≡ true

pub file_known : (bytes : List ℕ) → Refuses Known (read_file bytes)
unfolding faults_of
file_known bytes = refuses_also (λ x h. rw h.speaks h.number) (file_refuses bytes)

pub answer_known : (xs : List Variable) (bytes : List ℕ) → Refuses Known (read_answer xs bytes)
unfolding faults_of
answer_known xs bytes = refuses_also (λ x h. rw h.speaks h.number) (answer_refuses xs bytes)
