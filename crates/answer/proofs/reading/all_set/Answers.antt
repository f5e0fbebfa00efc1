use mathlib.Core.Path.{◌≡◌, refl, ◌∙◌}
use native.Mathlib.Omega.{arith}
use lib.ListN.{length-set}
use lib.Seq.{get_or-take, length-take-le}
use Rattle.answer.proofs.EntryLaws.{all_start, all_next, all_missing}
use Rattle.answer.proofs.reading.all_set.Goals as goal

pub loop-i-init : goal.loop-i-init
loop-i-init c = (omega arith, refl, all_start c.args.settings.now c.args.row.now)

pub returns-in_default : goal.returns-in_default
returns-in_default c =
    let a = c.args in
    let l = length-take-le a.n a.settings.now (omega arith) in
    (all_missing _ c.loop-i.i (omega (arith, l)) (get_or-take a.n a.settings.now c.loop-i.i _ (omega arith) ∙ c.in_default.is), omega arith)

pub loop-i-preserved : goal.loop-i-preserved
loop-i-preserved c =
    let l = c.loop-i in
    (omega arith, length-set l.row l.i _ ∙ l.invariant.1, all_next c.args.settings.now l.row l.i _ (omega arith) (omega arith) c.in-Some.is l.invariant.2)

pub returns : goal.returns
returns c = let e : c.loop-i.i ≡ c.args.n = omega arith in (rw e at c.loop-i.invariant.2, omega arith)
