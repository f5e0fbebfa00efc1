use mathlib.Core.Path.{sym}
use mathlib.Core.Bool.{false}
use native.Mathlib.Omega.{arith}
use borrow.Author.Rules.{rules}
use lib.ListN.{take}
use lib.Seq.{length-take-le}
use Rattle.refusal.specs.declared.Fault.TheVariants.{ByteNotAllowed}
use Rattle.refusal.specs.declared.Subject.TheVariants.{Answer}
use Rattle.refusal.specs.Result.{refusal}
use Rattle.text.proofs.FoundLineLaws.{Ended, line_ends}
use Rattle.text.proofs.ReadingLaws.{reading_starts, reading_ends, reading_stops, reading_goes, reading_faults}
use Rattle.store.specs.Tables.{variables_in}
use Rattle.store.proofs.ExitLaws.{mapped_ok, mapped_err, exit}
use Rattle.answer.specs.Read.{settings_of, read_answer_line}
use Rattle.answer.proofs.reading.read_lines.Goals as goal
use Rattle.answer.proofs.reading.read_lines.Goals.{In_ok-line}

pub loop-i-init : goal.loop-i-init
loop-i-init c = let a = c.args in (reading_starts Answer (read_answer_line (variables_in a.file.now a.variables.now a.n)) (settings_of false (take a.n a.settings.now)) a.answer.now, c.requires.2)

pub returns-in_err-line : goal.returns-in_err-line
returns-in_err-line c =
    let a = c.args in
    let m = mapped_err c.map_err.result c.find_line.result (λ bad. refusal Answer ByteNotAllowed bad) c.map_err.ensures.cases (λ bad r k. search rules) _ c.in_err-line.was in
    (rw (exit c.from_residual.result c.in_err-line.field-0.0 c.from_residual.ensures, m.2) (reading_faults Answer (read_answer_line (variables_in a.file.now a.variables.now a.n)) (settings_of false (take a.n a.settings.now)) a.answer.now c.loop-i.invariant.0 c.loop-i-test.true m.0 (rw m.1 at c.find_line.ensures)), c.loop-i.invariant.1)

-- its content and where the next starts
ended : (c : In_ok-line) → Ended c.args.answer.now c.loop-i.i c.in_ok-line.line.stop c.in_ok-line.line.next
ended c = let found = mapped_ok c.map_err.result c.find_line.result (λ bad. refusal Answer ByteNotAllowed bad) c.map_err.ensures.cases (λ bad r k. search rules) _ c.in_ok-line.was in
    line_ends c.args.answer.now c.loop-i.i c.loop-i-test.true _ _ (rw found at c.find_line.ensures)

pub slice_bounds-cut-end : goal.slice_bounds-cut-end
slice_bounds-cut-end c = sym (length-take-le c.in_ok-line.line.stop c.args.answer.now (ended c).within)

pub read_any_line-requires : goal.read_any_line-requires
read_any_line-requires c =
    let line = ended (goal.at.read_any_line-requires c).In_ok-line in
    let long = length-take-le c.in_ok-line.line.stop c.args.answer.now line.within in
    (omega (arith, long, line.begun), c.requires.0, c.requires.1, c.loop-i.invariant.1, line.allowed)

pub returns-in_err-solved : goal.returns-in_err-solved
returns-in_err-solved c =
    let a = c.args in
    let line = c.in_ok-line.line in
    (rw (exit c.from_residual-in_err-solved.result c.in_err-solved.field-0.0 c.from_residual-in_err-solved.ensures) (reading_stops Answer (read_answer_line (variables_in a.file.now a.variables.now a.n)) (settings_of false (take a.n a.settings.now)) a.answer.now c.loop-i.invariant.0 c.loop-i-test.true line.stop line.next (ended (goal.at.returns-in_err-solved c).In_ok-line) _ (c.in_err-solved.ensures.0 line.next)), c.read_any_line.ensures.1)

pub loop-i-smaller : goal.loop-i-smaller
loop-i-smaller c = let line = ended (goal.at.loop-i-smaller c).In_ok-line in omega (arith, line.forward, line.inside)

pub loop-i-preserved : goal.loop-i-preserved
loop-i-preserved c =
    let a = c.args in
    let line = c.in_ok-line.line in
    (reading_goes Answer (read_answer_line (variables_in a.file.now a.variables.now a.n)) (settings_of false (take a.n a.settings.now)) a.answer.now c.loop-i.invariant.0 c.loop-i-test.true line.stop line.next (ended (goal.at.loop-i-preserved c).In_ok-line) _ (c.in_ok-solved.ensures.0 line.next), c.read_any_line.ensures.1)

pub returns : goal.returns
returns c = let a = c.args in (reading_ends Answer (read_answer_line (variables_in a.file.now a.variables.now a.n)) (settings_of false (take a.n a.settings.now)) a.answer.now c.loop-i.invariant.0 c.loop-i-test.false, c.loop-i.invariant.1)
