use Prim.Native.Nat.{◌-◌, ◌≤◌}
use mathlib.Core.Path.{◌≡◌, refl}
use native.Mathlib.Omega.{arith}
use lib.ListN.{length, get_or}
use borrow.Author.Rules.{rules}
use Rattle.judge.specs.Judge.{verdict_byte}
use Rattle.moves.specs.Internal.{judged_in}
use Rattle.moves.proofs.RenewLaws.{differs_most, listed_place, listed_start, listed_next, listed_end}
use Rattle.moves.proofs.renewing.renew_listed.Goals as goal

pub loop-k-init : goal.loop-k-init
loop-k-init c = (search rules, search rules, search rules, search rules, λ xs f. listed_start xs _ _ _ _ _ c.args.list.now (omega arith, omega arith))

pub overflow_cast-line : goal.overflow_cast-line
overflow_cast-line c = omega (arith, c.type_inv.list c.loop-k.k)

pub overflow_sub-line : goal.overflow_sub-line
overflow_sub-line c =
    let place : ((1 ≤ get_or c.args.list.now c.loop-k.k 0) × (get_or c.args.list.now c.loop-k.k 0 ≤ c.args.m)) = listed_place _ _ _ c.requires.5 c.loop-k-test.true in
    omega (arith, place)

pub renew_line-altered-requires : goal.renew_line-altered-requires
renew_line-altered-requires c =
    let place : ((1 ≤ get_or c.args.list.now c.loop-k.k 0) × (get_or c.args.list.now c.loop-k.k 0 ≤ c.args.m)) = listed_place _ _ _ c.requires.5 c.loop-k-test.true in
    let p = place in
    (omega (arith, p), omega (arith, p), c.requires.1, c.requires.2, omega (arith, p), c.requires.6 _ (omega (arith, p)))

pub overflow_add-altered : goal.overflow_add-altered
overflow_add-altered c =
    let place : ((1 ≤ get_or c.args.list.now c.loop-k.k 0) × (get_or c.args.list.now c.loop-k.k 0 ≤ c.args.m)) = listed_place _ _ _ c.requires.5 c.loop-k-test.true in
    let most : (c.renew_line-altered.result ≤ 1) = let line = get_or c.args.list.now c.loop-k.k 0 - 1 in
    let j = c.requires.6 line (omega (arith, place)) in
    let new = judged_in j.variables c.args.row.now c.args.heads.now c.args.bodies.now line in
    rw (c.renew_line-altered.ensures j.variables j.heads_fit).0 (differs_most (get_or c.loop-k.verdicts line 0) (verdict_byte new.verdict)) in
    omega (arith, most)

pub loop-k-preserved : goal.loop-k-preserved
loop-k-preserved c =
    let place : ((1 ≤ get_or c.args.list.now c.loop-k.k 0) × (get_or c.args.list.now c.loop-k.k 0 ≤ c.args.m)) = listed_place _ _ _ c.requires.5 c.loop-k-test.true in
    let most : (c.renew_line-altered.result ≤ 1) = let line = get_or c.args.list.now c.loop-k.k 0 - 1 in
    let j = c.requires.6 line (omega (arith, place)) in
    let new = judged_in j.variables c.args.row.now c.args.heads.now c.args.bodies.now line in
    rw (c.renew_line-altered.ensures j.variables j.heads_fit).0 (differs_most (get_or c.loop-k.verdicts line 0) (verdict_byte new.verdict)) in
    (search rules, search rules, search rules, omega (arith, most), λ xs f. let e = c.renew_line-altered.ensures xs (f (get_or c.args.list.now c.loop-k.k 0 - 1) (omega (arith, place))) in listed_next xs _ _ _ _ _ _ (omega arith, omega arith) c.requires.5 _ _ _ (c.loop-k.invariant.4 xs f) c.loop-k-test.true _ refl _ _ e.0 e.1)

pub shape_of-verdicts : goal.shape_of-verdicts
shape_of-verdicts c = c.loop-k.invariant.1

pub shape_of-results : goal.shape_of-results
shape_of-results c = c.loop-k.invariant.2

pub returns : goal.returns
returns c xs f = let s = c.args in
    let e : c.loop-k.k ≡ length s.list.now = omega arith in
    listed_end xs _ _ _ _ _ s.list.now _ _ (rw e at (c.loop-k.invariant.4 xs f))
