use mathlib.Core.Path.{refl}
use borrow.Author.Rules.{rules}
use Rattle.std.proofs.lemmas.Result.{err_from_is_err_and}
use Rattle.store.proofs.LookupLaws.{variables_length}
use Rattle.store.proofs.SearchLaws.{searchable_none}
use Rattle.index.specs.Index.{indexing}
use Rattle.index.proofs.index.Goals as goal

pub read-requires : goal.read-requires
read-requires c = (search rules, searchable_none _)

pub index_held-requires : goal.index_held-requires
index_held-requires c =
    let sized = c.in_ok-p.ensures.1 in
    let in_tables = c.in_ok-p.ensures.2 in
    (sized.heads, sized.bodies, in_tables.variables, in_tables.lines)

pub returns-in_err-p : goal.returns-in_err-p
unfolding indexing
returns-in_err-p c = let p = err_from_is_err_and c.from_residual.result c.from_residual.ensures.1 in rw (p.1, p.2, ← c.in_err-p.ensures.0)

pub returns : goal.returns
unfolding indexing
returns c = rw (← c.in_ok-p.ensures.0) (c.index_held.ensures _ (variables_length _ _ _) refl)
