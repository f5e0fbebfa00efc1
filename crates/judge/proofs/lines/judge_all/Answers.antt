use mathlib.Core.Path.{◌≡◌, refl, ◌∙◌}
use native.Mathlib.Omega.{arith}
use lib.ListN.{length-set}
use borrow.Author.Rules.{rules}
use Rattle.store.specs.Tables.{tabulate, lines_in}
use Rattle.judge.specs.Judge.{verdict_byte, column_of}
use Rattle.judge.proofs.VerdictLaws.{column_put}
use Rattle.judge.proofs.lines.judge_all.Goals as goal

pub loop-i-init : goal.loop-i-init
unfolding column_of lines_in tabulate
loop-i-init c = (search rules, refl, refl, λ xs f. (refl, refl))

pub judge_line-judged-requires : goal.judge_line-judged-requires
judge_line-judged-requires c = (c.requires.1, c.requires.2, omega arith, c.requires.5 _ c.loop-i-test.true)

pub loop-i-preserved : goal.loop-i-preserved
loop-i-preserved c = let l = c.loop-i in (
  search rules,
  length-set l.verdicts _ _ ∙ l.invariant.1,
  length-set l.results _ _ ∙ l.invariant.2,
  λ xs f.
      let judged = c.judge_line-judged.ensures xs (f _ c.loop-i-test.true) in
      let put = l.invariant.3 xs f in
      (rw (c.byte.ensures, judged, put.0) (column_put (λ j. verdict_byte j.verdict) xs _ _ _ l.i c.args.verdicts.now (omega arith)), rw (judged, put.1) (column_put (λ j. j.result) xs _ _ _ l.i c.args.results.now (omega arith))),
)

pub shape_of-verdicts : goal.shape_of-verdicts
shape_of-verdicts c = c.loop-i.invariant.1

pub shape_of-results : goal.shape_of-results
shape_of-results c = c.loop-i.invariant.2

pub returns : goal.returns
returns c xs f = let l = c.loop-i in
    let e : l.i ≡ c.args.m = omega arith in
    rw e at (l.invariant.3 xs f)
