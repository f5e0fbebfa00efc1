use Rattle.text.proofs.CompareLaws.{at_add}
use Rattle.text.proofs.compare.same4.Goals as goal

pub returns : goal.returns
returns c = rw (c.same2.ensures, c.same2-2.ensures) (at_add c.args.file.now c.args.text.now 2 c.args.a c.args.b 2 c.requires.0 c.requires.1)
