use Prim.Native.Nat.{ℕ, ◌≤◌, ◌<◌}
use mathlib.Core.Path.{◌≡◌, sym, ◌∙◌}
use mathlib.Core.List.{List, []}
use Rattle.std.specs.Prelude.{option_map}
use native.Mathlib.Omega.{arith}
use lib.ListN.{length, set, length-set}
use lib.Seq.{length-take-le}
use Rattle.std.proofs.lemmas.Result.{err_from_is_err_and}
use Rattle.constraint.specs.File.{File}
use Rattle.store.specs.Tables.{variables_in, lines_in}
use Rattle.store.proofs.LineTableLaws.{lines_length}
use Rattle.judge.specs.InUse.{Tables, tables_of}
use Rattle.index.specs.Index.{lent_index}
use Rattle.index.specs.Internal.{file_of}
use Rattle.moves.specs.Gate.{Call, changing}
use Rattle.moves.proofs.GateLaws.{Sized, Admitted, file_sized, admitted_passed, admitted_within}
use Rattle.moves.proofs.ChangeLaws.{change_refused, change_accepted, list_fitting, stored_fits, made_is}
use Rattle.moves.proofs.change.change_held.Goals as goal
use Rattle.moves.proofs.change.change_held.Goals.{In_ok-admitted}

-- the file that the tables hold, if its bytes are these, and the tables and the call
abbrev held : In_ok-admitted → List ℕ → File
held c bytes = let a = c.args in file_of (variables_in bytes a.variables.now a.n) (lines_in a.heads.now a.bodies.now a.m)

abbrev lent : In_ok-admitted → Tables
lent c = let a = c.args in tables_of a.values.now a.verdicts.now a.results.now

abbrev call : In_ok-admitted → Call
call c = let a = c.args in changing a.i a.v (option_map lent_index a.index)

sized : (c : In_ok-admitted) (bytes : List ℕ) → Sized (held c bytes) c.args.n c.args.m
sized c bytes = file_sized bytes _ _ _ _ (lines_length _ _ _)

-- all tests passed
passed : (c : In_ok-admitted) (bytes : List ℕ) → Admitted (held c bytes) (lent c) (call c)
passed c bytes = admitted_passed _ _ _ (sym (c.in_ok-admitted.ensures bytes _ (lines_length _ _ _)))

within : (c : In_ok-admitted) → let a = c.args in (a.i < a.n) × (a.n ≤ length a.values.now) × (a.m ≤ length a.verdicts.now) × (a.m ≤ length a.results.now)
within c = admitted_within _ _ _ (sized c []) _ _ _ _ (passed c [])

pub offset_bounds-values-i : goal.offset_bounds-values-i
offset_bounds-values-i c = omega (arith, within (goal.at.offset_bounds-values-i c).In_ok-admitted)

pub bounds-values-i : goal.bounds-values-i
bounds-values-i c = omega (arith, within (goal.at.bounds-values-i c).In_ok-admitted)

pub offset_bounds-values-i-2 : goal.offset_bounds-values-i-2
offset_bounds-values-i-2 c = omega (arith, within (goal.at.offset_bounds-values-i-2 c).In_ok-admitted)

pub bounds-values-i-2 : goal.bounds-values-i-2
bounds-values-i-2 c = omega (arith, within (goal.at.bounds-values-i-2 c).In_ok-admitted)

-- the row in use, once the value is stored
row_there : (c : In_ok-admitted) → let a = c.args in a.n ≤ length (set a.values.now a.i a.v)
row_there c = let a = c.args in omega (arith, within c, length-set a.values.now a.i a.v)

pub slice_bounds-row-end : goal.slice_bounds-row-end
slice_bounds-row-end c = row_there (goal.at.slice_bounds-row-end c).In_ok-admitted

pub slice_bounds-row-end-2 : goal.slice_bounds-row-end-2
slice_bounds-row-end-2 c = sym (length-take-le _ _ (row_there (goal.at.slice_bounds-row-end-2 c).In_ok-admitted))

pub renew_concerned-renewal-requires : goal.renew_concerned-renewal-requires
renew_concerned-renewal-requires c =
    let at = (goal.at.renew_concerned-renewal-requires c).In_ok-admitted in
    let h = within at in
    (c.requires.1, c.requires.2, c.requires.3, h.2, h.3, list_fitting _ _ _ _ _ _ (lines_length _ _ _) (passed at []), c.requires.4 _ (λ file. stored_fits _ _ _ _ _ (passed at file) _ _ (sized at file)))

pub slice_bounds-overall-end : goal.slice_bounds-overall-end
slice_bounds-overall-end c = omega (arith, within (goal.at.slice_bounds-overall-end c).In_ok-admitted, c.renew_concerned-renewal.auto.verdicts)

pub slice_bounds-overall-end-2 : goal.slice_bounds-overall-end-2
slice_bounds-overall-end-2 c = sym (length-take-le _ c.renew_concerned-renewal.new.verdicts (omega (arith, within (goal.at.slice_bounds-overall-end-2 c).In_ok-admitted, c.renew_concerned-renewal.auto.verdicts)))

pub returns-in_err-admitted : goal.returns-in_err-admitted
returns-in_err-admitted c file f =
    let q = err_from_is_err_and c.from_residual.result c.from_residual.ensures.1 in
    rw (q.1, q.2) (change_refused _ _ _ _ (c.in_err-admitted.ensures file _ (lines_length _ _ _)))

pub returns : goal.returns
returns c file f =
    let at = (goal.at.returns c).In_ok-admitted in
    rw c.effect.ensures (made_is _ _ _ _ _ (passed at file) _ _ (sized at file) _ _ _ _ (c.renew_concerned-renewal.ensures _ f) c.overall.ensures)
    ∙ change_accepted _ _ _ (c.in_ok-admitted.ensures file _ (lines_length _ _ _))
