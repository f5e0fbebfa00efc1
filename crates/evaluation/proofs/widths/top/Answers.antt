use Rattle.std.proofs.Common.{◌-◌, arith}
use Rattle.arithmetic.proofs.Powers.{one_shl}
use Rattle.evaluation.proofs.widths.top.Goals as goal

pub returns : goal.returns
returns c = one_shl (c.args.k - 1) (omega arith)
