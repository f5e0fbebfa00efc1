use mathlib.Core.Path.{sym, ◌∙◌}
use native.Mathlib.Omega.{arith}
use Rattle.text.proofs.NameLaws.{same_from, same_first, same_short}
use Rattle.text.proofs.CompareLaws.{block_same, block_other}
use Rattle.text.proofs.compare.same_at.Goals as goal

pub returns-then-text-at : goal.returns-then-text-at
returns-then-text-at c = let a = c.args in sym (same_short a.file.now a.text.now a.start a.len a.at (omega arith) (λ e. let z : ⊥ = omega arith in z))

pub loop-i-init : goal.loop-i-init
loop-i-init c = (omega arith, omega arith, same_first _ _ _ _ _)

pub loop-i-preserved : goal.loop-i-preserved
loop-i-preserved c = (omega arith, c.loop-i.invariant.1, block_same c.args.file.now c.args.text.now c.args.start c.args.len c.args.at c.requires.0 c.loop-i.invariant.1 8 c.loop-i.i (omega arith) (sym c.same8.ensures ∙ c.if-same8.true) ∙ c.loop-i.invariant.2)

pub returns-else-same8 : goal.returns-else-same8
returns-else-same8 c = sym (block_other c.args.file.now c.args.text.now c.args.start c.args.len c.args.at c.requires.0 c.loop-i.invariant.1 8 c.loop-i.i (omega arith) (sym c.same8.ensures ∙ c.if-same8.false)) ∙ c.loop-i.invariant.2

pub returns : goal.returns
unfolding same_from
returns c = rw c.same_rest.ensures c.loop-i.invariant.2
