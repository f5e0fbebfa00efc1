use Rattle.std.proofs.Common.{sym, ◌∙◌, arith}
use Rattle.reporting.proofs.HexLaws.{appended, hex_turn, hex_end}
use Rattle.reporting.proofs.hex.Goals as goal

pub loop-i-preserved : goal.loop-i-preserved
loop-i-preserved c =
    let a = c.args in
    let l = c.loop-i in
    let d = c.digit.ensures in
    rw (appended l.value c.digit.result d.1, d.0)
    (sym (hex_turn a.text.now l.value l.i a.end (omega arith) (omega arith)) ∙ l.invariant)

pub returns : goal.returns
returns c =
    let a = c.args in
    let l = c.loop-i in
    sym (hex_end a.text.now l.value l.i a.end (omega arith)) ∙ l.invariant
