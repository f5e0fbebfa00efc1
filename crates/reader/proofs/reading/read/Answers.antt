use native.Mathlib.Omega.{arith}
use Rattle.store.proofs.ExitLaws.{exit}
use Rattle.reader.proofs.ReaderLaws.{file_long, file_refused, file_unversioned, file_read}
use Rattle.reader.proofs.reading.read.Goals as goal

pub returns-then-file-gt-FILE_BYTES : goal.returns-then-file-gt-FILE_BYTES
returns-then-file-gt-FILE_BYTES c = (rw c.of.ensures (file_long c.args.file.now (omega arith)), c.requires.0, tt, tt, tt)

pub returns-in_err-p : goal.returns-in_err-p
returns-in_err-p c = let r = c.in_err-p.ensures in
    rw (exit c.from_residual.result c.in_err-p.field-0.0 c.from_residual.ensures)
    (file_refused c.args.file.now (omega arith) c.in_err-p.field-0.0 r.0, r.1, tt, tt, tt)

pub returns-then-is_none : goal.returns-then-is_none
returns-then-is_none c = let r = c.in_ok-p.ensures in
    (rw c.of-then-is_none.ensures (file_unversioned c.args.file.now (omega arith) _ r.0 (rw c.if-is_none.true at c.is_none.ensures)), r.1, tt, tt, tt)

pub returns : goal.returns
returns c = let r = c.in_ok-p.ensures in
    (file_read c.args.file.now (omega arith) _ r.0 (rw c.if-is_none.false at c.is_none.ensures), r.1, r.3, r.4, r.2)
