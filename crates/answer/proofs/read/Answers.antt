use Prim.Native.Nat.{◌≤◌}
use mathlib.Core.Path.{◌≡◌, refl, ap, ◌∙◌}
use native.Mathlib.Omega.{arith}
use lib.ListN.{length, take}
use borrow.Author.Rules.{rules}
use Rattle.edition.specs.Edition.{max_variables}
use Rattle.refusal.specs.Result.{Ok}
use Rattle.constraint.specs.Read.{read_file}
use Rattle.store.specs.Tables.{store_of}
use Rattle.store.specs.Progress.{stored_file}
use Rattle.store.proofs.ExitLaws.{exit}
use Rattle.store.proofs.LookupLaws.{variables_length}
use Rattle.store.proofs.SearchLaws.{searchable_none}
use Rattle.answer.specs.Read.{read_answer}
use Rattle.answer.specs.Call.{stored}
use Rattle.answer.proofs.CallLaws.{reading_constraint, reading_answer, reading_short, reading_row, row_stored}
use Rattle.answer.proofs.read.Goals as goal
use Rattle.answer.proofs.read.Goals.{In_ok-p, In_ok-read_answer}

pub read-requires : goal.read-requires
read-requires c = (search rules, searchable_none _)

pub returns-in_err-p : goal.returns-in_err-p
returns-in_err-p c = let a = c.args in
    rw (exit c.from_residual.result c.in_err-p.field-0.0 c.from_residual.ensures) (ap (stored a.values.now) (reading_constraint a.constraint.now a.answer.now a.values.now _ c.in_err-p.ensures.0))

-- the file is read, and its variables are few
file_read : (c : In_ok-p) → Ok (stored_file c.args.constraint.now (store_of c.read.new.variables c.read.new.heads c.read.new.bodies) c.in_ok-p.p) ≡ read_file c.args.constraint.now
file_read c = c.in_ok-p.ensures.0

few : (c : In_ok-p) → c.in_ok-p.p.variables ≤ max_variables
few c = c.in_ok-p.ensures.2.variables

pub read_answer-requires : goal.read_answer-requires
read_answer-requires c = (few (goal.at.read_answer-requires c).In_ok-p, c.in_ok-p.ensures.4, refl)

pub returns-in_err-read_answer : goal.returns-in_err-read_answer
returns-in_err-read_answer c = let a = c.args in
    rw (exit c.from_residual-in_err-read_answer.result c.in_err-read_answer.field-0.0 c.from_residual-in_err-read_answer.ensures) (ap (stored a.values.now) (reading_answer a.constraint.now a.answer.now a.values.now _ (file_read (goal.at.returns-in_err-read_answer c).In_ok-p) _ c.in_err-read_answer.ensures.0))

-- the row is read
row_read : (c : In_ok-read_answer) → let p = c.in_ok-p.p in Ok (take p.variables c.read_answer.new.row) ≡ read_answer (stored_file c.args.constraint.now (store_of c.read.new.variables c.read.new.heads c.read.new.bodies) p).variables c.args.answer.now
row_read c = c.in_ok-read_answer.ensures.0

pub returns-then-values-n : goal.returns-then-values-n
returns-then-values-n c = let a = c.args in
    let at = goal.at.returns-then-values-n c in
    let n = c.in_ok-p.p.variables in
    rw c.of.ensures (ap (stored a.values.now) (reading_short a.constraint.now a.answer.now a.values.now _ (file_read at.In_ok-p) _ (row_read at.In_ok-read_answer) n (variables_length a.constraint.now c.read.new.variables n) c.if-values-n.true))

pub store_row-requires : goal.store_row-requires
store_row-requires c = (few (goal.at.store_row-requires c).In_ok-p, c.read_answer.ensures.1, c.if-values-n.false)

pub returns : goal.returns
returns c = let a = c.args in
    let at = goal.at.returns c in
    let n = c.in_ok-p.p.variables in
    row_stored a.values.now c.read_answer.new.row _ n (omega (arith, few at.In_ok-p, c.read_answer.ensures.1)) c.store_row.ensures
    ∙ ap (stored a.values.now) (reading_row a.constraint.now a.answer.now a.values.now _ (file_read at.In_ok-p) _ (row_read at.In_ok-read_answer) n (variables_length a.constraint.now c.read.new.variables n) c.if-values-n.false)
