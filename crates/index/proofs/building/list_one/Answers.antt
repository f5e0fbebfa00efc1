use Prim.Native.Nat.{◌<◌}
use mathlib.Core.Path.{refl}
use native.Mathlib.Omega.{arith}
use lib.ListN.{length, get_or}
use borrow.Author.Tests.{eq-eqb}
use Rattle.index.specs.Claims.{max_listed}
use Rattle.index.proofs.ListingLaws.{listed_one, listed_none}
use Rattle.index.proofs.building.list_one.Goals as goal

pub overflow_cast-lists : goal.overflow_cast-lists
overflow_cast-lists c =
    let room : (let s = c.args in (get_or s.next.now s.i 0 < length s.lists.now) × (get_or s.next.now s.i 0 < max_listed)) = c.requires.2 c.args.i c.if-i-n.true (rw (eq-eqb c.args.i c.args.i refl) (omega arith)) in
    omega (arith, room)

pub offset_bounds-lists-at : goal.offset_bounds-lists-at
offset_bounds-lists-at c =
    let room : (let s = c.args in (get_or s.next.now s.i 0 < length s.lists.now) × (get_or s.next.now s.i 0 < max_listed)) = c.requires.2 c.args.i c.if-i-n.true (rw (eq-eqb c.args.i c.args.i refl) (omega arith)) in
    omega (arith, room)

pub bounds-lists-at : goal.bounds-lists-at
bounds-lists-at c =
    let room : (let s = c.args in (get_or s.next.now s.i 0 < length s.lists.now) × (get_or s.next.now s.i 0 < max_listed)) = c.requires.2 c.args.i c.if-i-n.true (rw (eq-eqb c.args.i c.args.i refl) (omega arith)) in
    room.0

pub overflow_add-next : goal.overflow_add-next
overflow_add-next c =
    let room : (let s = c.args in (get_or s.next.now s.i 0 < length s.lists.now) × (get_or s.next.now s.i 0 < max_listed)) = c.requires.2 c.args.i c.if-i-n.true (rw (eq-eqb c.args.i c.args.i refl) (omega arith)) in
    omega (arith, room)

pub returns-then-i-n : goal.returns-then-i-n
returns-then-i-n c =
    let room : (let s = c.args in (get_or s.next.now s.i 0 < length s.lists.now) × (get_or s.next.now s.i 0 < max_listed)) = c.requires.2 c.args.i c.if-i-n.true (rw (eq-eqb c.args.i c.args.i refl) (omega arith)) in
    listed_one _ _ _ _ _ c.if-i-n.true (omega (arith, c.requires)) room.0

pub returns-else-i-n : goal.returns-else-i-n
returns-else-i-n c = listed_none _ _ _ _ _ c.if-i-n.false
