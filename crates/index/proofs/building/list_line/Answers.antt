use Prim.Native.Nat.{ℕ, ◌+◌, ◌<◌}
use mathlib.Core.Path.{◌≡◌, ◌∙◌}
use native.Mathlib.Omega.{arith}
use Rattle.store.specs.Tables.{line_in}
use Rattle.index.specs.Select.{names}
use Rattle.index.specs.Internal.{one, times_named}
use Rattle.index.proofs.ListingLaws.{room_first, room_second, room_third, room_fourth, listed_line}
use Rattle.index.proofs.building.list_line.Goals as goal

pub list_one-requires : goal.list_one-requires
list_one-requires c =
    let once : ((i : ℕ) → i < c.args.n → times_named i c.variables_of-line.result ≡ one ((names i (line_in c.args.heads.now c.args.bodies.now c.args.k)))) = λ i h. c.variables_of-line.ensures i (omega (arith, c.requires.3)) in
    (c.requires.0, c.requires.3, room_first _ (c.args.k + 1) c.variables_of-line.result (λ i. names i (line_in c.args.heads.now c.args.bodies.now c.args.k)) once c.args.next.now c.args.lists.now c.requires.5)

pub list_one-requires-2 : goal.list_one-requires-2
list_one-requires-2 c =
    let once : ((i : ℕ) → i < c.args.n → times_named i c.variables_of-line.result ≡ one ((names i (line_in c.args.heads.now c.args.bodies.now c.args.k)))) = λ i h. c.variables_of-line.ensures i (omega (arith, c.requires.3)) in
    (c.list_one.ensures.next_long ∙ c.requires.0, c.requires.3, room_second _ (c.args.k + 1) c.variables_of-line.result (λ i. names i (line_in c.args.heads.now c.args.bodies.now c.args.k)) once c.args.next.now c.args.lists.now c.requires.5 _ _ c.list_one.ensures)

pub list_one-requires-3 : goal.list_one-requires-3
list_one-requires-3 c =
    let once : ((i : ℕ) → i < c.args.n → times_named i c.variables_of-line.result ≡ one ((names i (line_in c.args.heads.now c.args.bodies.now c.args.k)))) = λ i h. c.variables_of-line.ensures i (omega (arith, c.requires.3)) in
    (c.list_one-2.ensures.next_long ∙ c.list_one.ensures.next_long ∙ c.requires.0, c.requires.3, room_third _ (c.args.k + 1) c.variables_of-line.result (λ i. names i (line_in c.args.heads.now c.args.bodies.now c.args.k)) once c.args.next.now c.args.lists.now c.requires.5 _ _ c.list_one.ensures _ _ c.list_one-2.ensures)

pub list_one-requires-4 : goal.list_one-requires-4
list_one-requires-4 c =
    let once : ((i : ℕ) → i < c.args.n → times_named i c.variables_of-line.result ≡ one ((names i (line_in c.args.heads.now c.args.bodies.now c.args.k)))) = λ i h. c.variables_of-line.ensures i (omega (arith, c.requires.3)) in
    (c.list_one-3.ensures.next_long ∙ c.list_one-2.ensures.next_long ∙ c.list_one.ensures.next_long ∙ c.requires.0, c.requires.3, room_fourth _ (c.args.k + 1) c.variables_of-line.result (λ i. names i (line_in c.args.heads.now c.args.bodies.now c.args.k)) once c.args.next.now c.args.lists.now c.requires.5 _ _ c.list_one.ensures _ _ c.list_one-2.ensures _ _ c.list_one-3.ensures)

pub returns : goal.returns
returns c =
    let once : ((i : ℕ) → i < c.args.n → times_named i c.variables_of-line.result ≡ one ((names i (line_in c.args.heads.now c.args.bodies.now c.args.k)))) = λ i h. c.variables_of-line.ensures i (omega (arith, c.requires.3)) in
    listed_line _ (c.args.k + 1) c.variables_of-line.result (λ i. names i (line_in c.args.heads.now c.args.bodies.now c.args.k)) once c.args.next.now c.args.lists.now c.requires.5 _ _ c.list_one.ensures _ _ c.list_one-2.ensures _ _ c.list_one-3.ensures _ _ c.list_one-4.ensures
