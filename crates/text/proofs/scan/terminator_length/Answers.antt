use Prim.Native.Nat.{◌+◌, ◌≤◌}
use mathlib.Core.Path.{sym, ◌∙◌}
use native.Mathlib.Omega.{arith}
use lib.ListN.{length, get_or-eq_default}
use borrow.Author.Tests.{ne_eqb}
use Rattle.refusal.proofs.BoolLaws.{and_false}
use Rattle.text.proofs.ContentLaws.{ends_at}
use Rattle.text.proofs.scan.terminator_length.Goals as goal

pub returns-then-file-at-eq10 : goal.returns-then-file-at-eq10
returns-then-file-at-eq10 c = let a = c.args in sym (ends_at a.file.now a.at ∙ rw c.if-file-at-eq10.true)

pub returns-then-next-file : goal.returns-then-next-file
returns-then-next-file c = let a = c.args in
    let h : length a.file.now ≤ a.at + 1 = omega arith in
    sym (ends_at a.file.now a.at ∙ rw (ne_eqb _ 10 c.if-file-at-eq10.false, get_or-eq_default a.file.now 0 h, and_false))

pub returns-then-file-at : goal.returns-then-file-at
returns-then-file-at c = let a = c.args in
    sym (ends_at a.file.now a.at ∙ rw (ne_eqb _ 10 c.if-file-at-eq10.false, c.if-file-at.true))

pub returns-else-file-at : goal.returns-else-file-at
returns-else-file-at c = let a = c.args in
    sym (ends_at a.file.now a.at ∙ rw (ne_eqb _ 10 c.if-file-at-eq10.false, c.if-file-at.false))
