use mathlib.Core.Path.{◌≡◌, refl, ◌∙◌}
use native.Mathlib.Omega.{arith}
use lib.ListN.{length-set}
use borrow.Author.Rules.{rules}
use Rattle.store.proofs.TableLaws.{row_more}
use Rattle.index.proofs.TallyLaws.{front_last}
use Rattle.index.proofs.building.put_starts.Goals as goal

pub loop-i-init : goal.loop-i-init
loop-i-init c = (search rules, refl, refl)

pub loop-i-preserved : goal.loop-i-preserved
loop-i-preserved c = (search rules, length-set c.loop-i.starts _ _ ∙ c.loop-i.invariant.1, rw c.loop-i.invariant.2 (row_more c.args.firsts.now c.args.starts.now c.loop-i.i (omega (arith, c.requires)) (omega (arith, c.requires))))

pub returns : goal.returns
returns c = let e : c.loop-i.i ≡ c.args.n = omega arith in
    rw (rw e at c.loop-i.invariant.2) (front_last c.args.firsts.now c.args.starts.now c.args.n c.args.end (omega (arith, c.requires)) c.requires.2)
