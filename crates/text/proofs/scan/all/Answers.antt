use mathlib.Core.Path.{sym}
use Rattle.text.specs.Scan.{is_of}
use Rattle.text.proofs.RunLaws.{every_past}
use Rattle.text.proofs.scan.all.Goals as goal

pub returns : goal.returns
returns c = let a = c.args in rw c.scan.ensures (sym (every_past (is_of a.class) a.text.now a.at c.requires))
