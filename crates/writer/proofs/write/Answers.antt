use mathlib.Core.Path.{◌≡◌, sym, ap, ◌∙◌}
use Prim.Native.Nat.{◌≤◌}
use lib.ListN.{length, take}
use lib.Seq.{length-take-le}
use borrow.Author.Rules.{rules}
use Rattle.std.specs.Prelude.{None}
use Rattle.refusal.specs.Result.{Ok}
use Rattle.constraint.specs.File.{File}
use Rattle.constraint.specs.Read.{read_file}
use Rattle.constraint.proofs.SoundLaws.{read_short}
use Rattle.store.specs.Tables.{store_of}
use Rattle.store.specs.Progress.{stored_file, HeadsInUseFit, InTables}
use Rattle.store.proofs.ExitLaws.{exit}
use Rattle.store.proofs.LookupLaws.{variables_length}
use Rattle.store.proofs.SearchLaws.{searchable_none}
use Rattle.judge.specs.Judge.{fresh_verdicts, overall_of}
use Rattle.judge.specs.InUse.{first_unfit}
use Rattle.judge.specs.Claims.{RowFits}
use Rattle.judge.proofs.FitLaws.{row_fits}
use Rattle.judge.proofs.HeldLaws.{lines_fit}
use Rattle.printing.specs.Output.{written}
use Rattle.writer.specs.Write.{is_satisfied}
use Rattle.writer.proofs.WritingLaws.{writing_constraint, writing_short, writing_unfit, writing_unsatisfied, writing_text}
use Rattle.writer.proofs.write.Goals as goal
use Rattle.writer.proofs.write.Goals.{In_ok-p, In_default, After-satisfies}

pub read-requires : goal.read-requires
read-requires c = (search rules, searchable_none _)

pub returns-in_err-p : goal.returns-in_err-p
returns-in_err-p c = let a = c.args in
    rw (exit c.from_residual.result c.in_err-p.field-0.0 c.from_residual.ensures) (ap (written a.output.now) (writing_constraint a.constraint.now a.values.now a.output.now _ c.in_err-p.ensures.0))

-- the file in the tables, and what is known of it
abbrev file : In_ok-p → File
file c = stored_file c.args.constraint.now (store_of c.read.new.variables c.read.new.heads c.read.new.bodies) c.in_ok-p.p

file_read : (c : In_ok-p) → Ok (file c) ≡ read_file c.args.constraint.now
file_read c = c.in_ok-p.ensures.0

in_tables : (c : In_ok-p) → InTables c.in_ok-p.p
in_tables c = c.in_ok-p.ensures.2

counted : (c : In_ok-p) → length (file c).variables ≡ c.in_ok-p.p.variables
counted c = variables_length c.args.constraint.now c.read.new.variables c.in_ok-p.p.variables

heads_fit : (c : In_ok-p) → HeadsInUseFit c.args.constraint.now (store_of c.read.new.variables c.read.new.heads c.read.new.bodies) c.in_ok-p.p
heads_fit c = c.in_ok-p.ensures.3

pub returns-then-values-n : goal.returns-then-values-n
returns-then-values-n c = let a = c.args in
    let p = (goal.at.returns-then-values-n c).In_ok-p in
    rw c.of.ensures (ap (written a.output.now) (writing_short a.constraint.now a.values.now a.output.now (file p) (file_read p) c.in_ok-p.p.variables (counted p) c.if-values-n.true))

pub first_unfit-requires : goal.first_unfit-requires
first_unfit-requires c = ((in_tables (goal.at.first_unfit-requires c).In_ok-p).variables, c.if-values-n.false)

pub returns-in-Some : goal.returns-in-Some
returns-in-Some c = let a = c.args in
    let p = (goal.at.returns-in-Some c).In_ok-p in
    rw c.of-in-Some.ensures (ap (written a.output.now) (writing_unfit a.constraint.now a.values.now a.output.now (file p) (file_read p) c.in_ok-p.p.variables (counted p) c.if-values-n.false c.in-Some.i (c.in-Some.ensures a.constraint.now)))

-- the values fit
unfit : (c : In_default) → None ≡ first_unfit (file (goal.at.In_default c).In_ok-p).variables (take c.in_ok-p.p.variables c.args.values.now)
unfit c = c.in_default.ensures c.args.constraint.now

pub slice_bounds-row-end : goal.slice_bounds-row-end
slice_bounds-row-end c = sym (length-take-le c.in_ok-p.p.variables c.args.values.now c.if-values-n.false)

pub satisfies-requires : goal.satisfies-requires
satisfies-requires c = let a = c.args in
    let at = goal.at.satisfies-requires c in
    let p = at.In_ok-p in
    let row = take c.in_ok-p.p.variables a.values.now in
    let fits = row_fits (file p).variables row (length-take-le c.in_ok-p.p.variables a.values.now c.if-values-n.false ∙ sym (counted p)) (sym (unfit at.In_default)) in
    let t = c.read.ensures.1 in
    ((in_tables p).lines, t.heads, t.bodies, lines_fit a.constraint.now _ c.in_ok-p.p row (file_read p) (heads_fit p) fits)

-- whether they satisfy the file
satisfied : (c : After-satisfies) → let p = (goal.at.After-satisfies c).In_ok-p in c.satisfies.result ≡ is_satisfied (overall_of (fresh_verdicts (file p) (take c.in_ok-p.p.variables c.args.values.now)))
satisfied c = let p = (goal.at.After-satisfies c).In_ok-p in c.satisfies.ensures (file p).variables (heads_fit p)

pub returns-then-not-satisfies : goal.returns-then-not-satisfies
returns-then-not-satisfies c = let a = c.args in
    let at = goal.at.returns-then-not-satisfies c in
    let p = at.In_ok-p in
    rw c.of-then-not-satisfies.ensures (ap (written a.output.now) (writing_unsatisfied a.constraint.now a.values.now a.output.now (file p) (file_read p) c.in_ok-p.p.variables (counted p) c.if-values-n.false (unfit at.In_default) (sym c.if-not-satisfies.true ∙ satisfied at.After-satisfies)))

pub write_row-requires : goal.write_row-requires
write_row-requires c = let p = (goal.at.write_row-requires c).In_ok-p in
    (read_short c.args.constraint.now (file p) (sym (file_read p)), (in_tables p).variables, length-take-le c.in_ok-p.p.variables c.args.values.now c.if-values-n.false)

pub returns : goal.returns
returns c = let a = c.args in
    let at = goal.at.returns c in
    let p = at.In_ok-p in
    c.write_row.ensures
    ∙ ap (written a.output.now) (writing_text a.constraint.now a.values.now a.output.now (file p) (file_read p) c.in_ok-p.p.variables (counted p) c.if-values-n.false (unfit at.In_default) (sym c.if-not-satisfies.false ∙ satisfied at.After-satisfies))
