use Prim.Native.Nat.{ℕ, ◌+◌}
use mathlib.Core.Path.{◌≡◌, refl, ◌∙◌}
use mathlib.Core.Bool.{true}
use lib.ListN.{length, drop}
use native.Mathlib.Omega.{arith}
use Rattle.text.specs.Lines.{tokens_from}
use Rattle.text.specs.Scan.{line_at}
use Rattle.constraint.specs.File.{File}
use Rattle.constraint.specs.Read.{read_statement}
use Rattle.store.specs.Tables.{line_in, LinesKept}
use Rattle.store.proofs.LineTableLaws.{kept_same, kept_on, kept_cleared, fit_cleared, line_cleared}
use Rattle.store.proofs.ExitLaws.{exit}
use Rattle.statement.proofs.OperandLaws.{left_done, statement_full, statement_starts, first_most, fits_any}
use Rattle.statement.specs.Internal.{left_to_read}
use Rattle.statement.proofs.operations.statement_line.Goals as goal

pub returns-then-m-ge-LINES : goal.returns-then-m-ge-LINES
returns-then-m-ge-LINES c = (λ f next v q. rw c.of.ensures (statement_full c.args.form f c.args.line.now c.args.at next _ q c.if-m-ge-LINES.true), kept_same _ _ _, tt, c.requires.3, c.requires.4)

pub loop-slot-init : goal.loop-slot-init
loop-slot-init c = let e = c.clear_operands.ensures in
    let heads = c.args.heads.now in
    let bodies = c.args.bodies.now in
    let m = c.args.m in
    let room = c.if-m-ge-LINES.false in
    record {
      in_line = record { at = omega arith; least = omega arith; most = omega arith };
      in_slots = omega (arith, c.first_slot-slot.ensures, first_most c.args.form);
      sized_heads = e.0;
      sized_bodies = c.requires.4;
      kept = kept_same _ _ _;
      fits = rw e.1 (fit_cleared heads bodies m c.requires.3 room _);
      blank = λ h. rw (e.1, line_cleared heads bodies m c.requires.3 room);
      left = λ f next v. refl;
    }

pub place_part-requires : goal.place_part-requires
place_part-requires c = (c.requires.1, c.requires.2, c.loop-slot.invariant.in_line, c.loop-slot-test.true, c.loop-slot.invariant.sized_heads, c.loop-slot.invariant.sized_bodies, c.if-m-ge-LINES.false)

pub returns-in_err-p : goal.returns-in_err-p
returns-in_err-p c =
    let starts : ((f : File) (next : ℕ) → let l = line_at c.args.line.now c.args.at next in length f.lines ≡ c.args.m → left_to_read f l c.first_slot-slot.result 3 c.args.at (line_in c.clear_operands.new.heads c.args.bodies.now c.args.m) (tokens_from true (c.args.at + 1) (drop (c.args.at + 1) c.args.line.now)) ≡ read_statement c.args.form f l) = λ f next q. let e = c.clear_operands.ensures.1 in
    let room = c.if-m-ge-LINES.false in
    rw c.first_slot-slot.ensures (statement_starts c.args.form f c.args.line.now c.args.at next c.args.m 3 c.args.at _ q room (rw (e, line_cleared c.args.heads.now c.args.bodies.now c.args.m c.requires.3 room))) in
    let cleared-kept : (LinesKept c.args.heads.now c.args.bodies.now c.clear_operands.new.heads c.args.bodies.now c.args.m) = rw c.clear_operands.ensures.1 (kept_cleared c.args.heads.now c.args.bodies.now c.args.m) in
    let r = c.in_err-p.ensures in
    let i = c.loop-slot.invariant in
    rw (exit c.from_residual.result c.in_err-p.field-0.0 c.from_residual.ensures)
    (λ f next v q. r.0 f c.args.at next v (omega arith) i.blank ∙ i.left f next v ∙ starts f next q, kept_on cleared-kept (kept_on i.kept r.1), tt, r.4, r.5)

pub overflow_add-slot : goal.overflow_add-slot
overflow_add-slot c = let i = c.loop-slot.invariant.in_line.most in omega arith

pub loop-slot-smaller : goal.loop-slot-smaller
loop-slot-smaller c = let i = c.loop-slot.invariant.in_line.most in omega arith

pub loop-slot-preserved : goal.loop-slot-preserved
loop-slot-preserved c = let r = c.in_ok-p.ensures in
    let i = c.loop-slot.invariant in
    let p = r.6 in
    record {
      in_line = p.0;
      in_slots = omega (arith, p.1);
      sized_heads = r.4;
      sized_bodies = r.5;
      kept = kept_on i.kept r.1;
      fits = r.2 i.fits;
      blank = r.3 i.blank;
      left = λ f next v. r.0 f c.args.at next v (omega arith) i.blank ∙ i.left f next v;
    }

pub finish-requires : goal.finish-requires
finish-requires c = let i = c.loop-slot.invariant in
    (i.in_line.at, i.sized_heads, i.sized_bodies, c.if-m-ge-LINES.false)

pub returns : goal.returns
returns c =
    let starts : ((f : File) (next : ℕ) → let l = line_at c.args.line.now c.args.at next in length f.lines ≡ c.args.m → left_to_read f l c.first_slot-slot.result 3 c.args.at (line_in c.clear_operands.new.heads c.args.bodies.now c.args.m) (tokens_from true (c.args.at + 1) (drop (c.args.at + 1) c.args.line.now)) ≡ read_statement c.args.form f l) = λ f next q. let e = c.clear_operands.ensures.1 in
    let room = c.if-m-ge-LINES.false in
    rw c.first_slot-slot.ensures (statement_starts c.args.form f c.args.line.now c.args.at next c.args.m 3 c.args.at _ q room (rw (e, line_cleared c.args.heads.now c.args.bodies.now c.args.m c.requires.3 room))) in
    let cleared-kept : (LinesKept c.args.heads.now c.args.bodies.now c.clear_operands.new.heads c.args.bodies.now c.args.m) = rw c.clear_operands.ensures.1 (kept_cleared c.args.heads.now c.args.bodies.now c.args.m) in
    let i = c.loop-slot.invariant in
    let p = c.loop-slot.p in
    let out = c.loop-slot-test.false in
    let a = i.in_line.least in
    let b = i.in_slots in
    let e : c.loop-slot.slot ≡ p.last + 1 = omega arith in
    (λ f next v q. c.finish.ensures _ i.fits ∙ left_done f _ p.last p.operator _ _ c.loop-slot.slot (omega arith) e _ v ∙ i.left f next v ∙ starts f next q, kept_on cleared-kept i.kept, fits_any _ _ _ _ c.finish.result c.if-m-ge-LINES.false i.fits, i.sized_heads, i.sized_bodies)
