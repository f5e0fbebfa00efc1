use Prim.Native.Nat.{◌+◌}
use native.Mathlib.Omega.{arith}
use Rattle.index.specs.Internal.{CountsAtMost}
use Rattle.index.proofs.TallyLaws.{added_most}
use Rattle.index.proofs.building.count_line.Goals as goal

pub count_one-requires : goal.count_one-requires
count_one-requires c = (c.requires.0, λ h. omega (arith, c.requires.4 _ h))

pub count_one-requires-2 : goal.count_one-requires-2
count_one-requires-2 c =
    let most-1 : (CountsAtMost (c.args.k + 1) c.count_one.new.counts) = added_most c.args.counts.now c.count_one.new.counts _ _ c.requires.4 c.count_one.ensures.1 in
    (c.count_one.ensures.0, λ h. omega (arith, most-1 _ h))

pub count_one-requires-3 : goal.count_one-requires-3
count_one-requires-3 c =
    let most-1 : (CountsAtMost (c.args.k + 1) c.count_one.new.counts) = added_most c.args.counts.now c.count_one.new.counts _ _ c.requires.4 c.count_one.ensures.1 in
    let most-2 : (CountsAtMost (c.args.k + 1 + 1) c.count_one-2.new.counts) = added_most c.count_one.new.counts c.count_one-2.new.counts _ _ most-1 c.count_one-2.ensures.1 in
    (c.count_one-2.ensures.0, λ h. omega (arith, most-2 _ h))

pub count_one-requires-4 : goal.count_one-requires-4
count_one-requires-4 c =
    let most-1 : (CountsAtMost (c.args.k + 1) c.count_one.new.counts) = added_most c.args.counts.now c.count_one.new.counts _ _ c.requires.4 c.count_one.ensures.1 in
    let most-2 : (CountsAtMost (c.args.k + 1 + 1) c.count_one-2.new.counts) = added_most c.count_one.new.counts c.count_one-2.new.counts _ _ most-1 c.count_one-2.ensures.1 in
    let most-3 : (CountsAtMost (c.args.k + 1 + 1 + 1) c.count_one-3.new.counts) = added_most c.count_one-2.new.counts c.count_one-3.new.counts _ _ most-2 c.count_one-3.ensures.1 in
    (c.count_one-3.ensures.0, λ h. omega (arith, most-3 _ h))

pub returns : goal.returns
returns c = (c.count_one-4.ensures.0, λ q h. omega (arith, c.variables_of-line.ensures q h, c.count_one.ensures.1 q h, c.count_one-2.ensures.1 q h, c.count_one-3.ensures.1 q h, c.count_one-4.ensures.1 q h))
