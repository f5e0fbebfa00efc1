use Prim.Native.Nat.{◌≤◌}
use mathlib.Core.Path.{◌≡◌, refl, sym, ap, ◌∙◌}
use native.Mathlib.Omega.{arith}
use lib.ListN.{length}
use lib.Seq.{length-take-le}
use borrow.Author.Rules.{rules}
use Rattle.std.proofs.lemmas.Result.{err_from_is_err_and}
use Rattle.store.specs.Tables.{Store, store_of}
use Rattle.store.specs.Progress.{stored_file}
use Rattle.store.proofs.SearchLaws.{searchable_none}
use Rattle.judge.specs.InUse.{Tables, tables_of}
use Rattle.tables.specs.Check.{checked}
use Rattle.tables.proofs.CheckLaws.{refused_constraint, refused_answer, refused_room, checked_row, variables_held, lines_held, room_held, answer_fits_lines, counts_lines, tables_filled}
use Rattle.tables.proofs.check.check_lines.Goals as goal
use Rattle.tables.proofs.check.check_lines.Goals.{In_ok-p, In_ok-tables_room}

-- the tables that hold the file, and those that are lent
abbrev store : In_ok-p → Store
store c = store_of c.read.new.variables c.read.new.heads c.read.new.bodies

abbrev lent : In_ok-p → Tables
lent c = tables_of c.args.values.now c.args.verdicts.now c.args.results.now

-- those that are lent have room for the entries in use
has_room : (c : In_ok-tables_room) → let p = c.in_ok-p.p in (p.variables ≤ length c.args.values.now) × (p.lines ≤ length c.args.verdicts.now) × (p.lines ≤ length c.args.results.now)
has_room c =
    let bytes = c.args.constraint.now in
    let t = store_of c.read.new.variables c.read.new.heads c.read.new.bodies in
    let p = c.in_ok-p.p in
    room_held bytes t p _ (c.in_ok-tables_room.ensures _ (variables_held bytes t p) (lines_held bytes t p))

pub read-requires : goal.read-requires
read-requires c = (search rules, searchable_none _)

pub read_answer-requires : goal.read_answer-requires
read_answer-requires c = (c.in_ok-p.ensures.2.variables, c.in_ok-p.ensures.4, refl)

pub store_row-requires : goal.store_row-requires
store_row-requires c = (c.in_ok-p.ensures.2.variables, c.in_ok-read_answer.ensures.1, (has_room (goal.at.store_row-requires c).In_ok-tables_room).0)

pub judge_all-requires : goal.judge_all-requires
judge_all-requires c =
    let held = c.in_ok-p.ensures in
    let room = has_room (goal.at.judge_all-requires c).In_ok-tables_room in
    (held.2.lines, held.1.heads, held.1.bodies, room.1, room.2, answer_fits_lines c.args.constraint.now (store (goal.at.judge_all-requires c).In_ok-p) c.in_ok-p.p held.0 held.3 _ _ c.in_ok-read_answer.ensures.0)

pub slice_bounds-overall-end : goal.slice_bounds-overall-end
slice_bounds-overall-end c = omega (arith, has_room (goal.at.slice_bounds-overall-end c).In_ok-tables_room, c.judge_all.auto.verdicts)

pub slice_bounds-overall-end-2 : goal.slice_bounds-overall-end-2
slice_bounds-overall-end-2 c = sym (length-take-le _ c.judge_all.new.verdicts (omega (arith, has_room (goal.at.slice_bounds-overall-end-2 c).In_ok-tables_room, c.judge_all.auto.verdicts)))

pub returns-in_err-p : goal.returns-in_err-p
returns-in_err-p c =
    let q = err_from_is_err_and c.from_residual.result c.from_residual.ensures.1 in
    rw (q.1, q.2) (ap (checked _) (refused_constraint _ _ _ _ c.in_err-p.ensures.0), tt)

pub returns-in_err-read_answer : goal.returns-in_err-read_answer
returns-in_err-read_answer c =
    let q = err_from_is_err_and c.from_residual-in_err-read_answer.result c.from_residual-in_err-read_answer.ensures.1 in
    rw (q.1, q.2) (ap (checked _) (refused_answer _ _ _ _ c.in_ok-p.ensures.0 _ c.in_err-read_answer.ensures.0), tt)

pub returns-in_err-tables_room : goal.returns-in_err-tables_room
returns-in_err-tables_room c =
    let q = err_from_is_err_and c.from_residual-in_err-tables_room.result c.from_residual-in_err-tables_room.ensures.1 in
    let bytes = c.args.constraint.now in
    let t = store (goal.at.returns-in_err-tables_room c).In_ok-p in
    let p = c.in_ok-p.p in
    let short = c.in_err-tables_room.ensures _ (variables_held bytes t p) (lines_held bytes t p) in
    rw (q.1, q.2) (ap (checked _) (refused_room _ _ _ _ c.in_ok-p.ensures.0 _ c.in_ok-read_answer.ensures.0 _ short), tt)

pub returns : goal.returns
returns c =
    let bytes = c.args.constraint.now in
    let t = store (goal.at.returns c).In_ok-p in
    let l = lent (goal.at.returns c).In_ok-p in
    let p = c.in_ok-p.p in
    let held = c.in_ok-p.ensures in
    let n = variables_held bytes t p in
    let m = lines_held bytes t p in
    let judged = c.judge_all.ensures _ held.3 in
    let filled = tables_filled l (stored_file bytes t p) _ _ _ n m _ _ _ c.store_row.ensures judged.0 judged.1 in
    let row = checked_row _ _ _ _ held.0 _ c.in_ok-read_answer.ensures.0 (c.in_ok-tables_room.ensures _ n m) in
    (rw c.overall.ensures (filled ∙ ap (checked l) row), counts_lines bytes t p held.0)
