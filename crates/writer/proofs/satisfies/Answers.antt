use mathlib.Core.Path.{◌≡◌, sym, ap, ◌∙◌}
use mathlib.Core.List.{List}
use native.Mathlib.Omega.{arith}
use borrow.Author.Rules.{rules}
use denote.Enum.Bare.{differs_true, differs_false}
use Rattle.constraint.specs.File.{Variable}
use Rattle.store.specs.Tables.{tabulate, line_in, lines_in, AllHeadsFit}
use Rattle.judge.specs.Judge.{judge}
use Rattle.judge.specs.contracts.Verdict.{the_type}
use Rattle.writer.proofs.SatisfiesLaws.{holds_more, all_hold, one_fails}
use Rattle.writer.proofs.satisfies.Goals as goal
use Rattle.writer.proofs.satisfies.Goals.{After-judge_line-judged}

pub loop-k-init : goal.loop-k-init
unfolding lines_in tabulate
loop-k-init c = (search rules, λ xs f. tt)

pub judge_line-judged-requires : goal.judge_line-judged-requires
judge_line-judged-requires c = (c.requires.1, c.requires.2, omega arith, c.requires.3 _ c.loop-k-test.true)

-- the verdict on line k
verdict_of : (c : After-judge_line-judged) → let a = c.args in (xs : List Variable) → AllHeadsFit xs a.heads.now a.bodies.now a.m → (judge xs a.row.now (line_in a.heads.now a.bodies.now c.loop-k.k)).verdict ≡ c.judge_line-judged.result.verdict
verdict_of c xs f = sym (ap (λ j. j.verdict) (c.judge_line-judged.ensures xs (f _ c.loop-k-test.true)))

pub loop-k-preserved : goal.loop-k-preserved
loop-k-preserved c =
    let holds = differs_false the_type (search rules) _ _ (sym c.ne.ensures ∙ c.if-ne.false) in
    (search rules, λ xs f. holds_more xs _ _ _ _ (c.loop-k.invariant.1 xs f) (verdict_of (goal.at.loop-k-preserved c).After-judge_line-judged xs f ∙ holds))

pub returns-then-ne : goal.returns-then-ne
returns-then-ne c xs f =
    one_fails xs _ _ _ _ _ c.loop-k-test.true (λ e. differs_true the_type _ _ (sym c.ne.ensures ∙ c.if-ne.true) (sym (verdict_of (goal.at.returns-then-ne c).After-judge_line-judged xs f) ∙ e))

pub returns : goal.returns
returns c xs f = let e : c.loop-k.k ≡ c.args.m = omega arith in
    all_hold xs _ _ _ _ (rw e at (c.loop-k.invariant.1 xs f))
