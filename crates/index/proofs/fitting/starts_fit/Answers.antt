use mathlib.Core.Path.{sym, ◌∙◌}
use native.Mathlib.Omega.{arith}
use Rattle.index.proofs.AlongLaws.{starts_missing, starts_first, starts_fall, starts_pass, starts_next, starts_end}
use Rattle.index.proofs.fitting.starts_fit.Goals as goal

pub returns-then-starts-n : goal.returns-then-starts-n
returns-then-starts-n c = let a = c.args in sym (starts_missing a.starts.now a.lists.now a.n c.if-starts-n.true)

pub loop-i-init : goal.loop-i-init
loop-i-init c = let a = c.args in (omega arith, starts_first a.starts.now a.lists.now a.n c.if-starts-n.false)

pub returns-then-start-last : goal.returns-then-start-last
returns-then-start-last c = let a = c.args in
    sym (starts_fall a.starts.now a.lists.now a.n c.if-starts-n.false c.loop-i.last c.loop-i.i c.loop-i-test.true c.if-start-last.true) ∙ c.loop-i.invariant.1

pub overflow_cast-start : goal.overflow_cast-start
overflow_cast-start c = omega (arith, c.type_inv.starts c.loop-i.i)

pub returns-then-lists-start : goal.returns-then-lists-start
returns-then-lists-start c = let a = c.args in
    sym (starts_pass a.starts.now a.lists.now a.n c.if-starts-n.false c.loop-i.last c.loop-i.i c.loop-i-test.true c.if-lists-start.true) ∙ c.loop-i.invariant.1

pub loop-i-preserved : goal.loop-i-preserved
loop-i-preserved c = let a = c.args in
    (omega arith, sym (starts_next a.starts.now a.lists.now a.n c.if-starts-n.false c.loop-i.last c.loop-i.i c.loop-i-test.true c.if-start-last.false c.if-lists-start.false) ∙ c.loop-i.invariant.1)

pub returns : goal.returns
returns c = let a = c.args in
    sym (starts_end a.starts.now a.lists.now a.n c.if-starts-n.false c.loop-i.last c.loop-i.i c.loop-i-test.false) ∙ c.loop-i.invariant.1
