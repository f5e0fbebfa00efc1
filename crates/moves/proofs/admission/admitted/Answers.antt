use Prim.Native.Nat.{ℕ, ◌≤◌}
use mathlib.Core.Path.{◌≡◌, refl, sym, ◌∙◌}
use mathlib.Core.List.{List, []}
use lib.ListN.{length}
use Rattle.std.proofs.lemmas.Result.{err_from_is_err_and}
use Rattle.refusal.specs.Result.{Ok}
use Rattle.constraint.specs.declared.Line.{Line}
use Rattle.store.specs.Tables.{variables_in, lines_in}
use Rattle.store.proofs.LineTableLaws.{lines_length}
use Rattle.judge.specs.InUse.{tables_of, room_of, tables_room}
use Rattle.judge.proofs.RoomLaws.{accepted_room}
use Rattle.index.specs.Internal.{file_of}
use Rattle.moves.proofs.GateLaws.{file_sized, gate_short, gate_barred, gate_fitted, index_fitted}
use Rattle.moves.proofs.admission.admitted.Goals as goal
use Rattle.moves.proofs.admission.admitted.Goals.{In_ok-tables_room}

-- the tables have room, of whatever file with these variables and as many lines
roomy : (c : In_ok-tables_room) → let a = c.args in (bytes : List ℕ) (ls : List Line) → length ls ≡ a.m → Ok tt ≡ tables_room (file_of (variables_in bytes a.variables.now a.n) ls) (room_of (tables_of a.values.now a.verdicts.now a.results.now))
roomy c bytes ls e = let z = file_sized bytes _ _ ls _ e in c.in_ok-tables_room.ensures _ z.variables z.lines

pub numbers_fit-requires : goal.numbers_fit-requires
numbers_fit-requires c =
    let a = c.args in
    let ls = lines_in [] [] a.m in
    let many = lines_length [] [] a.m in
    let z = file_sized [] a.variables.now a.n ls a.m many in
    let h = accepted_room (file_of (variables_in [] a.variables.now a.n) ls) _ (sym (roomy (goal.at.numbers_fit-requires c).In_ok-tables_room [] ls many)) in
    (c.requires.0, c.requires.1, rw z.variables at h.values, rw many at h.verdicts)

pub returns-in_err-tables_room : goal.returns-in_err-tables_room
returns-in_err-tables_room c bytes ls e =
    let q = err_from_is_err_and c.from_residual.result c.from_residual.ensures.1 in
    let z = file_sized bytes _ _ ls _ e in
    rw (q.1, q.2) (gate_short _ _ _ _ _ _ (c.in_err-tables_room.ensures _ z.variables z.lines))

pub returns-in_err-numbers_fit : goal.returns-in_err-numbers_fit
returns-in_err-numbers_fit c bytes ls e =
    let q = err_from_is_err_and c.from_residual-in_err-numbers_fit.result c.from_residual-in_err-numbers_fit.ensures.1 in
    rw (q.1, q.2) (gate_barred _ _ _ _ _ _ (roomy (goal.at.returns-in_err-numbers_fit c).In_ok-tables_room bytes ls e) (c.in_err-numbers_fit.ensures bytes ls e))

pub returns-in-Some : goal.returns-in-Some
returns-in-Some c bytes ls e =
    rw c.in-Some.is (gate_fitted _ _ _ _ _ (roomy (goal.at.returns-in-Some c).In_ok-tables_room bytes ls e) (c.in_ok-numbers_fit.ensures bytes ls e) _ (c.index_fits.ensures ∙ index_fitted _ _ _ (file_sized bytes _ _ ls _ e) _))

pub returns-in-None : goal.returns-in-None
returns-in-None c bytes ls e =
    rw c.in-None.is (gate_fitted _ _ _ _ _ (roomy (goal.at.returns-in-None c).In_ok-tables_room bytes ls e) (c.in_ok-numbers_fit.ensures bytes ls e) _ refl)
