use Prim.Native.Nat.{◌≤◌}
use mathlib.Core.Path.{◌≡◌}
use native.Mathlib.Omega.{arith}
use borrow.Author.Rules.{rules}
use Rattle.store.specs.Tables.{line_in}
use Rattle.index.specs.Select.{names}
use Rattle.moves.specs.Internal.{judged_in}
use Rattle.moves.proofs.RenewLaws.{renewed_most, named_start, named_next, named_end}
use Rattle.moves.proofs.renewing.renew.Goals as goal

pub loop-k-init : goal.loop-k-init
loop-k-init c = (search rules, search rules, search rules, search rules, search rules, λ xs f. named_start xs _ _ _ _ _ _ (omega arith, omega arith))

pub renew_named-one-requires : goal.renew_named-one-requires
renew_named-one-requires c = (omega arith, omega arith, c.requires.1, c.requires.2, omega arith, c.requires.5 _ c.loop-k-test.true)

pub overflow_add-named : goal.overflow_add-named
overflow_add-named c =
    let most : ((c.renew_named-one.result.named ≤ 1) × (c.renew_named-one.result.altered ≤ 1)) = let k = c.loop-k.k in
    let j = c.requires.5 k c.loop-k-test.true in
    renewed_most (names c.args.i (line_in c.args.heads.now c.args.bodies.now k)) (judged_in j.variables c.args.row.now c.args.heads.now c.args.bodies.now k) k _ _ _ (c.renew_named-one.ensures j.variables j.heads_fit) in
    omega (arith, most)

pub overflow_add-altered : goal.overflow_add-altered
overflow_add-altered c =
    let most : ((c.renew_named-one.result.named ≤ 1) × (c.renew_named-one.result.altered ≤ 1)) = let k = c.loop-k.k in
    let j = c.requires.5 k c.loop-k-test.true in
    renewed_most (names c.args.i (line_in c.args.heads.now c.args.bodies.now k)) (judged_in j.variables c.args.row.now c.args.heads.now c.args.bodies.now k) k _ _ _ (c.renew_named-one.ensures j.variables j.heads_fit) in
    omega (arith, most)

pub loop-k-preserved : goal.loop-k-preserved
loop-k-preserved c =
    let most : ((c.renew_named-one.result.named ≤ 1) × (c.renew_named-one.result.altered ≤ 1)) = let k = c.loop-k.k in
    let j = c.requires.5 k c.loop-k-test.true in
    renewed_most (names c.args.i (line_in c.args.heads.now c.args.bodies.now k)) (judged_in j.variables c.args.row.now c.args.heads.now c.args.bodies.now k) k _ _ _ (c.renew_named-one.ensures j.variables j.heads_fit) in
    let h = c.loop-k-test.true in
    (search rules, search rules, search rules, omega (arith, most), omega (arith, most), λ xs f. named_next xs _ _ _ _ _ _ (omega arith, omega arith) _ _ _ _ (c.loop-k.invariant.5 xs f) h _ _ (c.renew_named-one.ensures xs (f _ h)))

pub shape_of-verdicts : goal.shape_of-verdicts
shape_of-verdicts c = c.loop-k.invariant.1

pub shape_of-results : goal.shape_of-results
shape_of-results c = c.loop-k.invariant.2

pub returns : goal.returns
returns c xs f = let e : c.loop-k.k ≡ c.args.m = omega arith in
    named_end xs _ _ _ _ _ _ _ _ _ (rw e at (c.loop-k.invariant.5 xs f))
