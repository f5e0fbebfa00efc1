use Prim.Native.Nat.{◌+◌}
use mathlib.Core.Path.{refl, sym, ap, ◌∙◌}
use mathlib.Core.Bool.{not}
use lib.Dec.{eqb}
use lib.ListN.{get_or}
use borrow.Author.Rules.{rules}
use borrow.Author.Tests.{eq-eqb, ne_eqb}
use Rattle.judge.specs.Judge.{first_verdict}
use Rattle.refusal.proofs.ListLaws.{not_there, first_here, first_later, first_nowhere}
use Rattle.judge.proofs.verdicts.first_verdict.Goals as goal

pub returns-then-not-has_verdict : goal.returns-then-not-has_verdict
returns-then-not-has_verdict c = rw (← c.byte-v.ensures) (sym (not_there _ (ap not (sym c.has_verdict.ensures ∙ c.if-not-has_verdict.true))))

pub loop-i-init : goal.loop-i-init
unfolding first_verdict
loop-i-init c = (search rules, refl)

pub returns-then-v-verdicts : goal.returns-then-v-verdicts
returns-then-v-verdicts c = let i = c.loop-i.i in
    let a = c.args in
    let v = c.byte-v.result in
    let vs = a.verdicts.now in
    rw (← c.byte-v.ensures)
    (sym (first_here (eqb v) (i + 1) vs i 0 c.loop-i-test.true (eq-eqb v (get_or vs i 0) c.if-v-verdicts.true)) ∙ c.loop-i.invariant.1)

pub loop-i-preserved : goal.loop-i-preserved
loop-i-preserved c = let i = c.loop-i.i in
    let a = c.args in
    let v = c.byte-v.result in
    let vs = a.verdicts.now in
    (search rules, sym (first_later (eqb v) (i + 1) vs i 0 c.loop-i-test.true (ne_eqb v (get_or vs i 0) c.if-v-verdicts.false)) ∙ c.loop-i.invariant.1)

pub returns : goal.returns
returns c = let a = c.args in
    rw (← c.byte-v.ensures)
    (sym (first_nowhere (eqb c.byte-v.result) (c.loop-i.i + 1) a.verdicts.now c.loop-i.i c.loop-i-test.false) ∙ c.loop-i.invariant.1)
