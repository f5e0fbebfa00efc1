use Rattle.std.proofs.lemmas.Result.{err_from_is_err_and}
use Rattle.tables.proofs.check.check.Goals as goal

pub returns-in_err-overall : goal.returns-in_err-overall
returns-in_err-overall c =
    let q = err_from_is_err_and c.from_residual.result c.from_residual.ensures.1 in
    rw (q.1, q.2) c.in_err-overall.ensures.0

pub returns : goal.returns
returns c = c.in_ok-overall.ensures.0
