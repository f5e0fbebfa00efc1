use Prim.Native.Nat.{◌+◌}
use mathlib.Core.Path.{sym, ◌∙◌}
use native.Mathlib.Omega.{arith}
use Rattle.index.proofs.AlongLaws.{lists_first, lists_broken, lists_next, lists_end}
use borrow.Author.Rules.{rules}
use Rattle.index.proofs.fitting.lists_fit.Goals as goal

pub loop-i-init : goal.loop-i-init
loop-i-init c = let a = c.args in (search rules, lists_first a.starts.now a.lists.now a.n a.m)

pub overflow_cast-starts : goal.overflow_cast-starts
overflow_cast-starts c = omega (arith, c.type_inv.starts c.loop-i.i)

pub overflow_cast-starts-in-loop-i : goal.overflow_cast-starts-in-loop-i
overflow_cast-starts-in-loop-i c = omega (arith, c.type_inv.starts (c.loop-i.i + 1))

pub loop-i-preserved : goal.loop-i-preserved
loop-i-preserved c = let a = c.args in
    (search rules, sym (lists_next a.starts.now a.lists.now a.n a.m c.loop-i.i c.loop-i-test.true c.list_fits.result (sym c.list_fits.ensures) c.if-list_fits.true) ∙ c.loop-i.invariant.1)

pub returns-else-list_fits : goal.returns-else-list_fits
returns-else-list_fits c = let a = c.args in
    sym (lists_broken a.starts.now a.lists.now a.n a.m c.loop-i.i c.loop-i-test.true c.list_fits.result (sym c.list_fits.ensures) c.if-list_fits.false) ∙ c.loop-i.invariant.1

pub returns : goal.returns
returns c = let a = c.args in
    sym (lists_end a.starts.now a.lists.now a.n a.m c.loop-i.i c.loop-i-test.false) ∙ c.loop-i.invariant.1
