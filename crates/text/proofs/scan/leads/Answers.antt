use mathlib.Core.Path.{sym}
use native.Mathlib.Omega.{arith}
use Rattle.text.proofs.LineLaws.{leads_none, leads_alone, leads_more}
use Rattle.text.proofs.scan.leads.Goals as goal

pub returns-then-at-line : goal.returns-then-at-line
returns-then-at-line c = sym (leads_none c.args.line.now c.args.at c.args.letter (omega arith))

pub returns-then-next-line : goal.returns-then-next-line
returns-then-next-line c = sym (leads_alone c.args.line.now c.args.at c.args.letter (omega arith))

pub returns : goal.returns
returns c = rw c.is_space.ensures (sym (leads_more c.args.line.now c.args.at c.args.letter (omega arith)))
