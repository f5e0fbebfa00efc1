use native.Mathlib.Omega.{arith}
use lib.Dec.{eqb}
use lib.ListN.{get_or}
use borrow.Author.Rules.{rules}
use borrow.Author.Tests.{eq-eqb, ne_eqb}
use Rattle.refusal.proofs.ManyLaws.{many_here, many_later, many_nowhere}
use Rattle.tables.proofs.reports.count.Goals as goal
use Rattle.tables.proofs.reports.count.Goals.{then-byte-verdicts, else-byte-verdicts}

pub loop-i-init : goal.loop-i-init
loop-i-init c = (search rules, search rules, search rules)

pub loop-i-preserved : goal.loop-i-preserved
loop-i-preserved c = let i = c.loop-i.i in
    let v = c.byte-byte.result in
    let vs = c.args.verdicts.now in
    elim c.if-byte-verdicts.branch [
      | then-byte-verdicts w ↦ let e = many_here (eqb v) vs i 0 c.loop-i-test.true (eq-eqb v (get_or vs i 0) w.if-byte-verdicts.true) in (search rules, omega arith, omega arith)
      | else-byte-verdicts w ↦ let e = many_later (eqb v) vs i 0 c.loop-i-test.true (ne_eqb v (get_or vs i 0) w.if-byte-verdicts.false) in (search rules, omega arith, omega arith)
    ]

pub returns : goal.returns
returns c = let e = many_nowhere (eqb c.byte-byte.result) c.args.verdicts.now c.loop-i.i c.loop-i-test.false in
    rw (← c.byte-byte.ensures) (omega arith)
