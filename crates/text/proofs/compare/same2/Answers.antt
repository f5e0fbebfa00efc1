use Rattle.text.proofs.CompareLaws.{at_two}
use Rattle.text.proofs.compare.same2.Goals as goal

pub returns : goal.returns
returns c = at_two c.args.file.now c.args.text.now c.args.a c.args.b c.requires.0 c.requires.1
