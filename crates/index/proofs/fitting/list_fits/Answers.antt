use mathlib.Core.Path.{sym, ◌∙◌}
use native.Mathlib.Nat.{min-le_right}
use native.Mathlib.Omega.{arith}
use lib.ListN.{length}
use Rattle.index.proofs.AlongLaws.{list_first, list_low, list_next, list_end}
use Rattle.index.proofs.fitting.list_fits.Goals as goal

pub loop-k-init : goal.loop-k-init
loop-k-init c = let a = c.args in (c.min-end.ensures, omega arith, list_first a.m a.lists.now a.to a.from)

pub offset_bounds-lists-k : goal.offset_bounds-lists-k
offset_bounds-lists-k c = let a = c.args in omega (arith, c.loop-k.invariant.0, min-le_right a.to (length a.lists.now))

pub bounds-lists-k : goal.bounds-lists-k
bounds-lists-k c = let a = c.args in omega (arith, c.loop-k.invariant.0, min-le_right a.to (length a.lists.now))

pub returns-then-line-last : goal.returns-then-line-last
returns-then-line-last c = let a = c.args in
    sym (list_low a.m a.lists.now a.to c.loop-k.last c.loop-k.k (omega arith) c.if-line-last.true) ∙ c.loop-k.invariant.2

pub overflow_add-k : goal.overflow_add-k
overflow_add-k c = let a = c.args in omega (arith, c.loop-k.invariant.0, min-le_right a.to (length a.lists.now))

pub loop-k-preserved : goal.loop-k-preserved
loop-k-preserved c = let a = c.args in
    (c.loop-k.invariant.0, omega (arith, c.type_inv.lists c.loop-k.k), sym (list_next a.m a.lists.now a.to c.loop-k.last c.loop-k.k (omega arith) c.if-line-last.false) ∙ c.loop-k.invariant.2)

pub overflow_cast-result : goal.overflow_cast-result
overflow_cast-result c = omega (arith, c.loop-k.invariant.1)

pub returns : goal.returns
returns c = let a = c.args in
    sym (list_end a.m a.lists.now a.to c.loop-k.last c.loop-k.k (omega arith)) ∙ c.loop-k.invariant.2
