use Prim.Native.Nat.{◌+◌, ◌≤◌}
use mathlib.Core.Path.{◌≡◌, sym, ◌∙◌}
use native.Mathlib.Omega.{arith}
use lib.Count.{count_trailing_zeros}
use lib.ListN.{length}
use Rattle.text.specs.declared.Class.TheVariants.{Printing}
use Rattle.text.specs.Scan.{is_of, past}
use Rattle.text.proofs.RunLaws.{past_le}
use Rattle.text.proofs.ScanLaws.{scan_starts, scan_leaps}
use Rattle.text.proofs.StopLaws.{stops_clear, stops_first}
use Rattle.text.proofs.scan.printing_bytes.Goals as goal

pub loop-i-init : goal.loop-i-init
loop-i-init c = scan_starts c.requires

pub overflow_cast-result : goal.overflow_cast-result
overflow_cast-result c =
    let stopped : (let i = c.loop-i.i in i + count_trailing_zeros 32 c.stops16-stops.result ≡ past (is_of Printing) c.args.text.now i) = let i = c.loop-i.i in
    let f = c.args.text.now in
    rw c.stops16-stops.ensures (stops_first f 32 16 i (omega arith) (omega arith) λ e. c.if-stops-ne0.true (c.stops16-stops.ensures ∙ e)) in
    let inside : (c.loop-i.i + count_trailing_zeros 32 c.stops16-stops.result ≤ length c.args.text.now) = omega (arith, stopped, past_le (is_of Printing) c.args.text.now c.loop-i.i c.loop-i.invariant.within) in
    omega (arith, inside)

pub overflow_add-result : goal.overflow_add-result
overflow_add-result c =
    let stopped : (let i = c.loop-i.i in i + count_trailing_zeros 32 c.stops16-stops.result ≡ past (is_of Printing) c.args.text.now i) = let i = c.loop-i.i in
    let f = c.args.text.now in
    rw c.stops16-stops.ensures (stops_first f 32 16 i (omega arith) (omega arith) λ e. c.if-stops-ne0.true (c.stops16-stops.ensures ∙ e)) in
    let inside : (c.loop-i.i + count_trailing_zeros 32 c.stops16-stops.result ≤ length c.args.text.now) = omega (arith, stopped, past_le (is_of Printing) c.args.text.now c.loop-i.i c.loop-i.invariant.within) in
    omega (arith, inside)

pub returns-then-stops-ne0 : goal.returns-then-stops-ne0
returns-then-stops-ne0 c =
    let stopped : (let i = c.loop-i.i in i + count_trailing_zeros 32 c.stops16-stops.result ≡ past (is_of Printing) c.args.text.now i) = let i = c.loop-i.i in
    let f = c.args.text.now in
    rw c.stops16-stops.ensures (stops_first f 32 16 i (omega arith) (omega arith) λ e. c.if-stops-ne0.true (c.stops16-stops.ensures ∙ e)) in
    stopped ∙ c.loop-i.invariant.ends

pub loop-i-preserved : goal.loop-i-preserved
loop-i-preserved c = let i = c.loop-i.i in
    scan_leaps c.loop-i.invariant (record { within = omega arith; onward = omega arith; ends = stops_clear c.args.text.now 16 i (omega arith) (sym c.stops16-stops.ensures ∙ c.if-stops-ne0.false) })

pub returns : goal.returns
returns c = c.scan.ensures ∙ c.loop-i.invariant.ends
