use mathlib.Core.Path.{sym, ◌∙◌}
use native.Mathlib.Omega.{arith}
use Rattle.text.proofs.NameLaws.{same_first, from_same, from_other, from_end}
use Rattle.text.proofs.compare.same_rest.Goals as goal

pub loop-i-init : goal.loop-i-init
loop-i-init c = (omega arith, same_first _ _ _ _ _)

pub returns-then-file-start : goal.returns-then-file-start
returns-then-file-start c = let a = c.args in
    sym (from_other a.file.now a.text.now a.start a.len a.at c.loop-i.i (omega arith) (omega arith) (omega arith) c.if-file-start.true) ∙ c.loop-i.invariant.1

pub loop-i-preserved : goal.loop-i-preserved
loop-i-preserved c = let a = c.args in
    (omega arith, from_same a.file.now a.text.now a.start a.len a.at c.loop-i.i (omega arith) (omega arith) (omega arith) c.if-file-start.false ∙ c.loop-i.invariant.1)

pub returns : goal.returns
returns c = let a = c.args in
    sym (from_end a.file.now a.text.now a.start a.len a.at c.loop-i.i (omega arith) (omega arith)) ∙ c.loop-i.invariant.1
