use mathlib.Core.Path.{◌≡◌, sym, ◌∙◌}
use Prim.Native.Nat.{◌-◌}
use native.Mathlib.Omega.{arith}
use lib.ListN.{drop}
use Rattle.store.proofs.ChainLaws.{walk_first, walk_less, walk_next}
use Rattle.store.proofs.SearchLaws.{has, has_part, search_found, search_ended}
use Rattle.store.proofs.names.find.Goals as goal

pub offset_bounds-variables-b : goal.offset_bounds-variables-b
offset_bounds-variables-b c = omega (arith, c.bucket-b.ensures)

pub bounds-variables-b : goal.bounds-variables-b
bounds-variables-b c = omega (arith, c.bucket-b.ensures)

pub loop-entry-init : goal.loop-entry-init
loop-entry-init c = let b = c.bucket-b.ensures in
    rw (c.first_entry-entry.ensures.0, b.0) (walk_first _ _ _ _ c.requires.2.chained (has c.args.file.now c.args.variables.now (drop c.args.at c.args.text.now)) _ (rw b.0 at b.1))

pub offset_bounds-variables-v : goal.offset_bounds-variables-v
offset_bounds-variables-v c = omega (arith, c.loop-entry.invariant.bound)

pub bounds-variables-v : goal.bounds-variables-v
bounds-variables-v c = omega (arith, c.loop-entry.invariant.bound)

pub same_at-requires : goal.same_at-requires
same_at-requires c = (rw (c.name_length.ensures, c.name_start.ensures) (c.requires.2.within (c.loop-entry.entry - 1) (omega (arith, c.loop-entry.invariant.bound))), c.requires.0)

pub returns-then-same_at : goal.returns-then-same_at
returns-then-same_at c =
    let tested : (let a = c.args in has a.file.now a.variables.now (drop a.at a.text.now) (c.loop-entry.entry - 1) ≡ c.same_at.result) = let a = c.args in
    sym (rw (c.name_length.ensures, c.name_start.ensures) at c.same_at.ensures ∙ has_part a.file.now a.variables.now (drop a.at a.text.now) (c.loop-entry.entry - 1)) in
    search_found _ _ _ c.requires.2 _ (c.loop-entry.entry - 1) (omega (arith, c.loop-entry.invariant.bound)) (tested ∙ c.if-same_at.true)

pub loop-entry-smaller : goal.loop-entry-smaller
loop-entry-smaller c = rw c.next_entry-entry.ensures (walk_less _ _ _ _ c.requires.2.chained (has c.args.file.now c.args.variables.now (drop c.args.at c.args.text.now)) _ c.loop-entry.entry c.loop-entry.invariant c.loop-entry-test.true)

pub loop-entry-preserved : goal.loop-entry-preserved
loop-entry-preserved c =
    let tested : (let a = c.args in has a.file.now a.variables.now (drop a.at a.text.now) (c.loop-entry.entry - 1) ≡ c.same_at.result) = let a = c.args in
    sym (rw (c.name_length.ensures, c.name_start.ensures) at c.same_at.ensures ∙ has_part a.file.now a.variables.now (drop a.at a.text.now) (c.loop-entry.entry - 1)) in
    rw c.next_entry-entry.ensures (walk_next _ _ _ _ c.requires.2.chained (has c.args.file.now c.args.variables.now (drop c.args.at c.args.text.now)) _ c.loop-entry.entry c.loop-entry.invariant c.loop-entry-test.true (tested ∙ c.if-same_at.false))

pub returns : goal.returns
returns c = let e : c.loop-entry.entry ≡ 0 = omega arith in
    search_ended _ _ _ c.requires.2 _ _ (rw (← c.requires.3)) (rw e at c.loop-entry.invariant)
