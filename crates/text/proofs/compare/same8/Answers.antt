use Rattle.text.proofs.CompareLaws.{at_add}
use Rattle.text.proofs.compare.same8.Goals as goal

pub returns : goal.returns
returns c = rw (c.same4.ensures, c.same4-2.ensures) (at_add c.args.file.now c.args.text.now 4 c.args.a c.args.b 4 c.requires.0 c.requires.1)
