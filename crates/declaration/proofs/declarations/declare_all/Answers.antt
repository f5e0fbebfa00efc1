use Prim.Native.Nat.{◌≤◌, ◌<◌}
use mathlib.Core.Path.{◌≡◌, refl, sym, ◌∙◌}
use mathlib.Core.Bool.{true}
use mathlib.Core.List.{◌∷◌}
use native.Mathlib.Omega.{arith}
use lib.ListN.{length, take, drop}
use lib.Seq.{length-take-le}
use Rattle.text.specs.declared.Class.TheVariants.{Space, Solid}
use Rattle.text.specs.Lines.{tokens_from}
use Rattle.text.specs.Scan.{is_of, past, token_from}
use Rattle.text.proofs.RunLaws.{scan_bounds}
use Rattle.text.proofs.TokenLaws.{tokens_end, tokens_done, tokens_turn, token_within}
use Rattle.store.proofs.ExitLaws.{exit}
use Rattle.declaration.proofs.DeclareLaws.{declaring_starts, declaring_done, declaring_fault, declaring_more}
use Rattle.declaration.proofs.declarations.declare_all.Goals as goal

pub loop-i-init : goal.loop-i-init
loop-i-init c = declaring_starts c.args.file.now c.args.stop c.args.at c.args.variables.now c.args.n c.requires.0 c.requires.3 c.requires.4 c.requires.5

pub slice_bounds-spaces-end : goal.slice_bounds-spaces-end
slice_bounds-spaces-end c =
    let cut : (length (take c.args.stop c.args.file.now) ≡ c.args.stop) = length-take-le c.args.stop c.args.file.now c.requires.1 in
    sym cut

pub spaces-start-requires : goal.spaces-start-requires
spaces-start-requires c =
    let cut : (length (take c.args.stop c.args.file.now) ≡ c.args.stop) = length-take-le c.args.stop c.args.file.now c.requires.1 in
    omega (arith, cut)

pub returns-then-start-stop : goal.returns-then-start-stop
returns-then-start-stop c =
    let cut : (length (take c.args.stop c.args.file.now) ≡ c.args.stop) = length-take-le c.args.stop c.args.file.now c.requires.1 in
    let i = c.loop-i.invariant in
    (declaring_done i (tokens_done (take c.args.stop c.args.file.now) _ _ c.spaces-start.ensures (c.if-start-stop.true ∙ sym cut)), i.whole, (i.few, i.held))

pub declare_next-requires : goal.declare_next-requires
declare_next-requires c =
    let cut : (length (take c.args.stop c.args.file.now) ≡ c.args.stop) = length-take-le c.args.stop c.args.file.now c.requires.1 in
    let below : (c.spaces-start.result < c.args.stop) = omega (arith, scan_bounds (is_of Space) (take c.args.stop c.args.file.now) c.loop-i.i c.spaces-start.result (omega (arith, cut, c.loop-i.invariant.within)) c.spaces-start.ensures, cut) in
    let i = c.loop-i.invariant in
    (below, c.requires.1, c.requires.2, i.few, i.whole, i.held)

pub returns-in_err-i : goal.returns-in_err-i
returns-in_err-i c =
    let cut : (length (take c.args.stop c.args.file.now) ≡ c.args.stop) = length-take-le c.args.stop c.args.file.now c.requires.1 in
    let below : (c.spaces-start.result < c.args.stop) = omega (arith, scan_bounds (is_of Space) (take c.args.stop c.args.file.now) c.loop-i.i c.spaces-start.result (omega (arith, cut, c.loop-i.invariant.within)) c.spaces-start.ensures, cut) in
    let turn : (let line = (take c.args.stop c.args.file.now) in let start = c.spaces-start.result in let end = past (is_of Solid) line start in tokens_from true c.loop-i.i (drop c.loop-i.i line) ≡ token_from line start ∷ tokens_from true end (drop end line)) = tokens_turn (take c.args.stop c.args.file.now) c.loop-i.i c.spaces-start.result c.spaces-start.ensures (omega (arith, below, cut)) _ refl in
    let d = c.in_err-i.ensures in
    rw (exit c.from_residual.result c.in_err-i.field-0.0 c.from_residual.ensures)
    (declaring_fault c.loop-i.invariant _ _ turn _ d.0, d.2, tt)

pub overflow_add-k : goal.overflow_add-k
overflow_add-k c =
    let puts = c.in_ok-i.ensures.1 in
    omega (arith, puts)

pub loop-i-smaller : goal.loop-i-smaller
loop-i-smaller c =
    let cut : (length (take c.args.stop c.args.file.now) ≡ c.args.stop) = length-take-le c.args.stop c.args.file.now c.requires.1 in
    let below : (c.spaces-start.result < c.args.stop) = omega (arith, scan_bounds (is_of Space) (take c.args.stop c.args.file.now) c.loop-i.i c.spaces-start.result (omega (arith, cut, c.loop-i.invariant.within)) c.spaces-start.ensures, cut) in
    let turned : (let end = past (is_of Solid) (take c.args.stop c.args.file.now) c.spaces-start.result in (c.loop-i.i < end) × (end ≤ c.args.stop)) = let w = token_within (take c.args.stop c.args.file.now) c.loop-i.i c.spaces-start.result c.spaces-start.ensures (omega (arith, below, cut)) _ refl in
    (omega (arith, w.0, w.1), omega (arith, w.2, cut)) in
    let puts = c.in_ok-i.ensures.1 in
    omega (arith, puts, turned)

pub loop-i-preserved : goal.loop-i-preserved
loop-i-preserved c =
    let cut : (length (take c.args.stop c.args.file.now) ≡ c.args.stop) = length-take-le c.args.stop c.args.file.now c.requires.1 in
    let below : (c.spaces-start.result < c.args.stop) = omega (arith, scan_bounds (is_of Space) (take c.args.stop c.args.file.now) c.loop-i.i c.spaces-start.result (omega (arith, cut, c.loop-i.invariant.within)) c.spaces-start.ensures, cut) in
    let turn : (let line = (take c.args.stop c.args.file.now) in let start = c.spaces-start.result in let end = past (is_of Solid) line start in tokens_from true c.loop-i.i (drop c.loop-i.i line) ≡ token_from line start ∷ tokens_from true end (drop end line)) = tokens_turn (take c.args.stop c.args.file.now) c.loop-i.i c.spaces-start.result c.spaces-start.ensures (omega (arith, below, cut)) _ refl in
    let turned : (let end = past (is_of Solid) (take c.args.stop c.args.file.now) c.spaces-start.result in (c.loop-i.i < end) × (end ≤ c.args.stop)) = let w = token_within (take c.args.stop c.args.file.now) c.loop-i.i c.spaces-start.result c.spaces-start.ensures (omega (arith, below, cut)) _ refl in
    (omega (arith, w.0, w.1), omega (arith, w.2, cut)) in
    let puts = c.in_ok-i.ensures.1 in
    let d = c.in_ok-i.ensures in
    rw puts.0 (declaring_more c.loop-i.invariant _ _ _ turn turned.1 puts.1 d.2 puts.2 d.0)

pub returns : goal.returns
returns c =
    let cut : (length (take c.args.stop c.args.file.now) ≡ c.args.stop) = length-take-le c.args.stop c.args.file.now c.requires.1 in
    let i = c.loop-i.invariant in
    (declaring_done i (tokens_end (take c.args.stop c.args.file.now) _ (omega (arith, cut))), i.whole, (i.few, i.held))
