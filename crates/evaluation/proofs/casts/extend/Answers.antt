use Rattle.arithmetic.specs.Arithmetic.{extended}
use Rattle.evaluation.proofs.casts.extend.Goals as goal

pub returns-in-Sext : goal.returns-in-Sext
returns-in-Sext c = rw c.in-Sext.is c.sign_extend.ensures

pub returns-in-Zext : goal.returns-in-Zext
unfolding extended
returns-in-Zext c = rw c.in-Zext.is
