use mathlib.Core.Path.{◌∙◌}
use Rattle.std.specs.Prelude.{option_map}
use borrow.Author.Rules.{rules}
use Rattle.std.proofs.lemmas.Result.{err_from_is_err_and}
use Rattle.store.specs.Tables.{store_of}
use Rattle.store.specs.Progress.{stored_file}
use Rattle.store.proofs.SearchLaws.{searchable_none}
use Rattle.judge.specs.InUse.{tables_of}
use Rattle.judge.proofs.HeldLaws.{lines_fit}
use Rattle.index.specs.Index.{lent_index}
use Rattle.index.specs.Internal.{file_of}
use Rattle.moves.specs.Gate.{changing}
use Rattle.moves.specs.Change.{change_for}
use Rattle.moves.proofs.ChangeLaws.{change_bare}
use Rattle.moves.proofs.change.change_read.Goals as goal

pub read-requires : goal.read-requires
read-requires c = (search rules, searchable_none _)

pub change_held-requires : goal.change_held-requires
change_held-requires c =
    let held = c.in_ok-p.ensures in
    let t = store_of c.read.new.variables c.read.new.heads c.read.new.bodies in
    (held.2.variables, held.2.lines, held.1.heads, held.1.bodies, λ row fits. lines_fit c.args.constraint.now t c.in_ok-p.p row held.0 held.3 (fits c.args.constraint.now))

pub returns-in_err-p : goal.returns-in_err-p
returns-in_err-p c =
    let q = err_from_is_err_and c.from_residual.result c.from_residual.ensures.1 in
    rw (q.1, q.2, ← c.in_err-p.ensures.0)

pub returns : goal.returns
returns c =
    let a = c.args in
    let held = c.in_ok-p.ensures in
    let f = stored_file a.constraint.now (store_of c.read.new.variables c.read.new.heads c.read.new.bodies) c.in_ok-p.p in
    let lent = tables_of a.values.now a.verdicts.now a.results.now in
    let index = option_map lent_index a.index in
    rw (← held.0) (◌∙◌ {b = change_for (file_of f.variables f.lines) lent (changing a.i a.v index)} (c.change_held.ensures a.constraint.now held.3) (change_bare f lent a.i a.v index))
