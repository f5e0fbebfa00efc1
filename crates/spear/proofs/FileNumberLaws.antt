-- A refusal of either file has a number from 1 to 20, and a position within the longest file. Assumes nothing.
use Prim.Native.Nat.{ℕ, ◌≤◌}
use mathlib.Core.Path.{◌≡◌, refl}
use mathlib.Core.Bool.{Bool, true, ◌&&◌}
use mathlib.Core.List.{List, map}
use lib.Dec.{leb}
use borrow.Author.Tests.{leb-true}
use Rattle.edition.specs.Edition.{max_file_bytes}
use Rattle.refusal.specs.declared.Refusal.{Refusal}
use Rattle.refusal.specs.declared.Fault.{Fault}
use Rattle.refusal.specs.declared.Subject.{Subject}
use Rattle.refusal.specs.declared.Fault.TheVariants.{FileTooLong, NotSet}
use Rattle.refusal.specs.Fault.{number_of}
use Rattle.refusal.specs.Lists.{every}
use Rattle.refusal.proofs.BoolLaws.{and_true}
use Rattle.refusal.proofs.ListLaws.{one_passes}
use Rattle.refusal.proofs.RefusesLaws.{Refuses, refuses_also}
use Rattle.constraint.specs.File.{Variable}
use Rattle.constraint.specs.Read.{read_file}
use Rattle.constraint.specs.Refusals.{constraint_faults}
use Rattle.constraint.proofs.WithinLaws.{FileRefusal}
use Rattle.constraint.proofs.FileRefusesLaws.{file_refuses}
use Rattle.answer.specs.Read.{read_answer}
use Rattle.answer.specs.Refusals.{answer_faults}
use Rattle.answer.proofs.AnswerRefusesLaws.{answer_refuses}

-- a number from the first of a file's faults to the last
pub record FileNumber (r : Refusal) : Type 0 where
  pub least : number_of FileTooLong ≤ number_of r.fault
  pub most : number_of r.fault ≤ number_of NotSet
  pub position : r.position ≤ max_file_bytes

abbrev is_file_number : ℕ → Bool
is_file_number n = leb (number_of FileTooLong) n && leb n (number_of NotSet)

file_number : {file : Subject} (faults : List Fault) (bytes : List ℕ) → every is_file_number (map number_of faults) ≡ true → (r : Refusal) → FileRefusal file faults bytes r → FileNumber r
file_number faults bytes e r h =
    let n = number_of r.fault in
    let p = and_true (leb (number_of FileTooLong) n) (leb n (number_of NotSet)) (one_passes is_file_number n (map number_of faults) e h.number) in
    record { least = leb-true (number_of FileTooLong) n p.0; most = leb-true n (number_of NotSet) p.1; position = h.limited }

pub file_numbered : (bytes : List ℕ) → Refuses FileNumber (read_file bytes)
unfolding every constraint_faults
file_numbered bytes = refuses_also (file_number constraint_faults bytes refl) (file_refuses bytes)

pub answer_numbered : (xs : List Variable) (bytes : List ℕ) → Refuses FileNumber (read_answer xs bytes)
unfolding every answer_faults
answer_numbered xs bytes = refuses_also (file_number answer_faults bytes refl) (answer_refuses xs bytes)
