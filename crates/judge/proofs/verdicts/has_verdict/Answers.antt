use mathlib.Core.Path.{refl, ◌∙◌}
use borrow.Author.Rules.{rules}
use Rattle.judge.specs.Judge.{first_verdict}
use Rattle.judge.proofs.OverallLaws.{found_more, found_all}
use Rattle.judge.proofs.verdicts.has_verdict.Goals as goal

pub loop-i-init : goal.loop-i-init
unfolding first_verdict
loop-i-init c = (search rules, refl)

pub loop-i-preserved : goal.loop-i-preserved
loop-i-preserved c = (search rules, found_more c.args.v c.args.verdicts.now c.loop-i.i c.loop-i.found c.loop-i-test.true ∙ c.loop-i.invariant.1)

pub returns : goal.returns
returns c = found_all c.args.v c.args.verdicts.now c.loop-i.i c.loop-i.found c.loop-i-test.false ∙ c.loop-i.invariant.1
