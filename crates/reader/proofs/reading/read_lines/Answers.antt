use mathlib.Core.Path.{◌≡◌}
use native.Mathlib.Omega.{arith}
use Rattle.std.proofs.Common.{rules}
use Rattle.refusal.specs.declared.Subject.TheVariants.{Constraint}
use Rattle.refusal.specs.declared.Fault.TheVariants.{ByteNotAllowed}
use Rattle.refusal.specs.Result.{Ok, refusal}
use Rattle.store.proofs.ExitLaws.{mapped_ok, mapped_err, exit}
use Rattle.text.proofs.FoundLineLaws.{Ended, line_ends}
use Rattle.text.proofs.ReadingLaws.{reading_starts, reading_ends, reading_stops, reading_goes, reading_faults}
use Rattle.constraint.specs.File.{empty_file}
use Rattle.constraint.specs.Read.{read_line}
use Rattle.store.specs.Tables.{store_of}
use Rattle.reader.proofs.ReaderLaws.{nothing_held, room_enough}
use Rattle.reader.proofs.reading.read_lines.Goals as goal

pub loop-i-init : goal.loop-i-init
loop-i-init c = let t = store_of c.args.variables.now c.args.heads.now c.args.bodies.now in
    rw (c.nothing-p.ensures, nothing_held c.args.file.now t)
    (reading_starts Constraint read_line empty_file c.args.file.now, c.requires.1, record { variables = omega arith; lines = omega arith }, c.requires.2, λ k h. let z : ⊥ = omega arith in absurd z)

pub returns-in_err-line : goal.returns-in_err-line
returns-in_err-line c = let i = c.loop-i.invariant in
    let bad = mapped_err c.map_err.result c.find_line.result (λ bad. refusal Constraint ByteNotAllowed bad) c.map_err.ensures.cases (λ e y l. search rules) _ c.in_err-line.was in
    rw (exit c.from_residual.result c.in_err-line.field-0.0 c.from_residual.ensures, bad.2)
    (reading_faults Constraint read_line empty_file c.args.file.now i.0 c.loop-i-test.true bad.0 (rw bad.1 at c.find_line.ensures), i.1, tt, tt, tt)

pub read_any_line-requires : goal.read_any_line-requires
read_any_line-requires c =
    let found : (c.find_line.result ≡ Ok c.in_ok-line.line) = mapped_ok c.map_err.result c.find_line.result (λ bad. refusal Constraint ByteNotAllowed bad) c.map_err.ensures.cases (λ e y l. search rules) _ c.in_ok-line.was in
    let line : (Ended c.args.file.now c.loop-i.i c.in_ok-line.line.stop c.in_ok-line.line.next) = line_ends c.args.file.now c.loop-i.i c.loop-i-test.true _ _ (rw found at c.find_line.ensures) in
    let i = c.loop-i.invariant in
    (line.begun, line.within, c.requires.0, i.2, i.1, i.3, line.allowed)

pub advance-p-requires : goal.advance-p-requires
advance-p-requires c = c.in_ok-part.ensures.3

pub returns-in_err-part : goal.returns-in_err-part
returns-in_err-part c =
    let found : (c.find_line.result ≡ Ok c.in_ok-line.line) = mapped_ok c.map_err.result c.find_line.result (λ bad. refusal Constraint ByteNotAllowed bad) c.map_err.ensures.cases (λ e y l. search rules) _ c.in_ok-line.was in
    let line : (Ended c.args.file.now c.loop-i.i c.in_ok-line.line.stop c.in_ok-line.line.next) = line_ends c.args.file.now c.loop-i.i c.loop-i-test.true _ _ (rw found at c.find_line.ensures) in
    let e = c.in_err-part.ensures in
    rw (exit c.from_residual-in_err-part.result c.in_err-part.field-0.0 c.from_residual-in_err-part.ensures)
    (reading_stops Constraint read_line empty_file c.args.file.now c.loop-i.invariant.0 c.loop-i-test.true c.in_ok-line.line.stop c.in_ok-line.line.next line _ (e.0 c.in_ok-line.line.next), e.1, tt, tt, tt)

pub loop-i-smaller : goal.loop-i-smaller
loop-i-smaller c =
    let found : (c.find_line.result ≡ Ok c.in_ok-line.line) = mapped_ok c.map_err.result c.find_line.result (λ bad. refusal Constraint ByteNotAllowed bad) c.map_err.ensures.cases (λ e y l. search rules) _ c.in_ok-line.was in
    let line : (Ended c.args.file.now c.loop-i.i c.in_ok-line.line.stop c.in_ok-line.line.next) = line_ends c.args.file.now c.loop-i.i c.loop-i-test.true _ _ (rw found at c.find_line.ensures) in
    omega (arith, line.forward, line.inside)

pub loop-i-preserved : goal.loop-i-preserved
loop-i-preserved c =
    let found : (c.find_line.result ≡ Ok c.in_ok-line.line) = mapped_ok c.map_err.result c.find_line.result (λ bad. refusal Constraint ByteNotAllowed bad) c.map_err.ensures.cases (λ e y l. search rules) _ c.in_ok-line.was in
    let line : (Ended c.args.file.now c.loop-i.i c.in_ok-line.line.stop c.in_ok-line.line.next) = line_ends c.args.file.now c.loop-i.i c.loop-i-test.true _ _ (rw found at c.find_line.ensures) in
    let e = c.in_ok-part.ensures in
    let i = c.loop-i.invariant in
    rw c.advance-p.ensures
    (reading_goes Constraint read_line empty_file c.args.file.now i.0 c.loop-i-test.true c.in_ok-line.line.stop c.in_ok-line.line.next line _ (e.0 c.in_ok-line.line.next), e.1, room_enough c.loop-i.p c.in_ok-part.part i.2 e.3, e.2, e.4 i.4)

pub returns : goal.returns
returns c = let i = c.loop-i.invariant in
    (reading_ends Constraint read_line empty_file c.args.file.now i.0 (omega arith), i.1, i.3, i.2, i.4)
