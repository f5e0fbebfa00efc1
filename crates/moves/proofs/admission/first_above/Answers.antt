use mathlib.Core.Path.{refl, sym, ◌∙◌}
use lib.Dec.{ltb}
use lib.ListN.{get_or}
use borrow.Author.Rules.{rules}
use borrow.Author.Tests.{lt-ltb, le-ltb}
use Rattle.judge.specs.Judge.{verdict_disregarded}
use Rattle.refusal.proofs.ListLaws.{first_here, first_later, first_nowhere}
use Rattle.moves.proofs.admission.first_above.Goals as goal

pub loop-k-init : goal.loop-k-init
loop-k-init c = (search rules, refl)

pub returns-then-last-verdicts : goal.returns-then-last-verdicts
returns-then-last-verdicts c = let k = c.loop-k.k in
    let vs = c.args.verdicts.now in
    sym (first_here (ltb verdict_disregarded) k vs k 0 c.loop-k-test.true (rw c.byte-last.ensures at (lt-ltb c.byte-last.result (get_or vs k 0) c.if-last-verdicts.true))) ∙ c.loop-k.invariant.1

pub loop-k-preserved : goal.loop-k-preserved
loop-k-preserved c = let k = c.loop-k.k in
    let vs = c.args.verdicts.now in
    (search rules, sym (first_later (ltb verdict_disregarded) k vs k 0 c.loop-k-test.true (rw c.byte-last.ensures at (le-ltb c.byte-last.result (get_or vs k 0) c.if-last-verdicts.false))) ∙ c.loop-k.invariant.1)

pub returns : goal.returns
returns c = sym (first_nowhere (ltb verdict_disregarded) c.loop-k.k c.args.verdicts.now c.loop-k.k c.loop-k-test.false) ∙ c.loop-k.invariant.1
