use Prim.Native.Nat.{◌+◌}
use mathlib.Core.Path.{◌≡◌, ◌∙◌}
use native.Mathlib.Omega.{arith}
use borrow.Author.Rules.{rules}
use Rattle.index.specs.Internal.{entry_of}
use Rattle.index.proofs.TallyLaws.{summed_start, summed_next, sum_below, sum_next}
use Rattle.index.proofs.building.accumulate.Goals as goal

pub loop-i-init : goal.loop-i-init
loop-i-init c = (search rules, summed_start _)

pub overflow_add-end : goal.overflow_add-end
overflow_add-end c = let g = entry_of c.args.counts.now in
    omega (arith, c.loop-i.invariant.1.sum, c.loop-i.invariant.1.left c.loop-i.i (omega arith), sum_next g c.loop-i.i, sum_below g (c.loop-i.i + 1) c.args.n (omega arith), c.requires.2)

pub loop-i-preserved : goal.loop-i-preserved
loop-i-preserved c = (search rules, summed_next _ _ _ _ c.loop-i.invariant.1 (omega (arith, c.requires.0)))

pub returns : goal.returns
returns c = let e : c.loop-i.i ≡ c.args.n = omega arith in
    let s = rw e at c.loop-i.invariant.1 in
    (s.long ∙ c.requires.0, s.sum, s.done)
