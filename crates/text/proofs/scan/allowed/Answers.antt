use Prim.Native.Nat.{◌+◌}
use mathlib.Core.Path.{refl}
use native.Mathlib.Omega.{arith}
use Rattle.text.specs.declared.Class.TheVariants.{Printing}
use Rattle.text.specs.Scan.{is_of}
use Rattle.text.proofs.RunLaws.{past_ge}
use Rattle.text.proofs.ScanLaws.{scan_starts, scan_steps, scan_stops, scan_ends}
use Rattle.text.proofs.StopLaws.{LeaptTo, leaps, tab_allowed, other_not_allowed}
use Rattle.text.proofs.scan.allowed.Goals as goal

pub loop-i-init : goal.loop-i-init
loop-i-init c = leaps (scan_starts c.requires) c.printing_bytes-i.ensures

pub loop-i-smaller : goal.loop-i-smaller
loop-i-smaller c =
    let onward : (LeaptTo c.args.text.now c.args.at c.printing_bytes-i-then-text-i-eq9.result) = leaps (scan_steps c.loop-i.invariant.scanned c.loop-i-test.true refl (tab_allowed _ c.if-text-i-eq9.true)) c.printing_bytes-i-then-text-i-eq9.ensures in
    omega (arith, c.printing_bytes-i-then-text-i-eq9.ensures, past_ge (is_of Printing) c.args.text.now (c.loop-i.i + 1), onward.scanned.within)

pub loop-i-preserved : goal.loop-i-preserved
loop-i-preserved c =
    let onward : (LeaptTo c.args.text.now c.args.at c.printing_bytes-i-then-text-i-eq9.result) = leaps (scan_steps c.loop-i.invariant.scanned c.loop-i-test.true refl (tab_allowed _ c.if-text-i-eq9.true)) c.printing_bytes-i-then-text-i-eq9.ensures in
    onward

pub returns-else-text-i-eq9 : goal.returns-else-text-i-eq9
returns-else-text-i-eq9 c = let i = c.loop-i.invariant in
    scan_stops i.scanned c.loop-i-test.true refl (other_not_allowed _ (i.stops c.loop-i-test.true) c.if-text-i-eq9.false)

pub returns : goal.returns
returns c = scan_ends c.loop-i.invariant.scanned c.loop-i-test.false
