use mathlib.Core.Path.{◌≡◌}
use native.Mathlib.Omega.{arith}
use borrow.Author.Rules.{rules}
use Rattle.refusal.specs.Lists.{how_many}
use Rattle.refusal.proofs.ManyLaws.{many_most}
use Rattle.store.specs.Tables.{tabulate, lines_in}
use Rattle.store.proofs.LineTableLaws.{lines_length}
use Rattle.index.specs.Select.{names}
use Rattle.index.proofs.CountLaws.{many_next}
use Rattle.index.proofs.building.count.Goals as goal

pub loop-k-init : goal.loop-k-init
unfolding lines_in tabulate how_many
loop-k-init c = (search rules, c.requires.0, c.requires.4)

pub count_line-requires : goal.count_line-requires
count_line-requires c = (c.loop-k.invariant.1, c.requires.1, c.requires.2, omega arith, λ q h. omega (arith, c.loop-k.invariant.2 q h, many_most (names q) (lines_in c.args.heads.now c.args.bodies.now c.loop-k.k), lines_length c.args.heads.now c.args.bodies.now c.loop-k.k))

pub loop-k-preserved : goal.loop-k-preserved
loop-k-preserved c = (search rules, c.count_line.ensures.0, λ q h. omega (arith, c.count_line.ensures.1 q h, c.loop-k.invariant.2 q h, many_next c.args.heads.now c.args.bodies.now q c.loop-k.k))

pub returns : goal.returns
returns c = let e : c.loop-k.k ≡ c.args.m = omega arith in
    (c.loop-k.invariant.1, λ q h. rw e at (c.loop-k.invariant.2 q h))
