use mathlib.Core.Path.{◌≡◌}
use native.Mathlib.Omega.{arith}
use borrow.Author.Rules.{rules}
use Rattle.index.proofs.FillLaws.{filled_start, filled_room, filled_next, filled_end}
use Rattle.index.proofs.building.list_all.Goals as goal

pub loop-k-init : goal.loop-k-init
loop-k-init c = (search rules, filled_start _ _ _ _ _ _ c.requires.0 c.requires.5)

pub list_line-requires : goal.list_line-requires
list_line-requires c = (c.loop-k.invariant.1.next_long, c.requires.1, c.requires.2, c.requires.3, omega arith, filled_room _ _ _ _ _ _ c.loop-k-test.true _ _ c.loop-k.invariant.1 c.requires.4 c.requires.6)

pub loop-k-preserved : goal.loop-k-preserved
loop-k-preserved c = (search rules, filled_next _ _ _ _ _ _ c.loop-k-test.true _ _ c.loop-k.invariant.1 _ _ c.list_line.ensures)

pub shape_of-lists : goal.shape_of-lists
shape_of-lists c = c.loop-k.invariant.1.lists_long

pub returns : goal.returns
returns c = let e : c.loop-k.k ≡ c.args.m = omega arith in
    filled_end _ _ _ _ _ _ _ (rw e at c.loop-k.invariant.1) c.requires.6
