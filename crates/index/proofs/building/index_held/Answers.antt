use Prim.Native.Nat.{ℕ, ◌<◌}
use mathlib.Core.Path.{◌≡◌, refl, ◌∙◌}
use native.Mathlib.Omega.{arith}
use lib.ListN.{get_or, get_or-replicate}
use Rattle.edition.specs.Edition.{max_variables}
use Rattle.index.specs.Index.{own_start}
use Rattle.index.specs.Internal.{held_file}
use Rattle.index.proofs.OutcomeLaws.{counts_start, counts_most, starts_short, lists_short, index_built}
use Rattle.index.proofs.building.index_held.Goals as goal

pub returns-then-starts-n : goal.returns-then-starts-n
returns-then-starts-n c f v l = starts_short f _ _ _ _ v l _ _ _ c.of.ensures c.if-starts-n.true

pub count-requires : goal.count-requires
count-requires c = (refl, c.requires.0, c.requires.1, c.requires.3, λ q h. get_or-replicate max_variables q 0 0 h)

pub accumulate-end-requires : goal.accumulate-end-requires
accumulate-end-requires c = (c.count.ensures.0, c.requires.2, counts_most c.args.heads.now c.args.bodies.now c.count.new.counts c.args.m c.count.ensures.1 c.args.n c.requires.2 c.requires.3)

pub returns-then-lists-end : goal.returns-then-lists-end
returns-then-lists-end c f v l =
    let end_at : (c.accumulate-end.result ≡ own_start (held_file c.args.heads.now c.args.bodies.now c.args.m) c.args.n) = c.accumulate-end.ensures.1 ∙ counts_start c.args.heads.now c.args.bodies.now c.count.new.counts c.args.m c.count.ensures.1 c.args.n c.requires.2 in
    lists_short f _ _ _ _ v l _ _ c.if-starts-n.false _ c.of-then-lists-end.ensures (omega (arith, c.if-lists-end.true, end_at))

pub list_all-requires : goal.list_all-requires
list_all-requires c =
    let starts-at : ((q : ℕ) → q < c.args.n → get_or c.accumulate-end.new.counts q 0 ≡ own_start (held_file c.args.heads.now c.args.bodies.now c.args.m) q) = λ q h. c.accumulate-end.ensures.2 q h ∙ counts_start c.args.heads.now c.args.bodies.now c.count.new.counts c.args.m c.count.ensures.1 q (omega (arith, c.requires.2)) in
    let end_at : (c.accumulate-end.result ≡ own_start (held_file c.args.heads.now c.args.bodies.now c.args.m) c.args.n) = c.accumulate-end.ensures.1 ∙ counts_start c.args.heads.now c.args.bodies.now c.count.new.counts c.args.m c.count.ensures.1 c.args.n c.requires.2 in
    (c.accumulate-end.ensures.0, c.requires.0, c.requires.1, c.requires.2, c.requires.3, starts-at, omega (arith, c.if-lists-end.false, end_at))

pub returns : goal.returns
returns c f v l =
    let starts-at : ((q : ℕ) → q < c.args.n → get_or c.accumulate-end.new.counts q 0 ≡ own_start (held_file c.args.heads.now c.args.bodies.now c.args.m) q) = λ q h. c.accumulate-end.ensures.2 q h ∙ counts_start c.args.heads.now c.args.bodies.now c.count.new.counts c.args.m c.count.ensures.1 q (omega (arith, c.requires.2)) in
    let end_at : (c.accumulate-end.result ≡ own_start (held_file c.args.heads.now c.args.bodies.now c.args.m) c.args.n) = c.accumulate-end.ensures.1 ∙ counts_start c.args.heads.now c.args.bodies.now c.count.new.counts c.args.m c.count.ensures.1 c.args.n c.requires.2 in
    index_built f _ _ _ _ v l c.args.starts.now c.args.lists.now c.if-starts-n.false (omega (arith, c.if-lists-end.false, end_at)) c.accumulate-end.new.counts c.accumulate-end.ensures.0 c.requires.2 starts-at _ _ _ end_at c.put_starts.ensures c.list_all.ensures
