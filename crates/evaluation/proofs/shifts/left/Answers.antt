use Rattle.std.proofs.Common.{◌*◌, ◌^◌, sym, ◌∙◌, arith}
use Rattle.arithmetic.specs.Arithmetic.{shifted}
use Rattle.arithmetic.proofs.Powers.{mod_word, shl_gone}
use Rattle.evaluation.proofs.shifts.left.Goals as goal

pub returns-then-n-k : goal.returns-then-n-k
unfolding shifted
returns-then-n-k c = c.low.ensures ∙ mod_word c.args.k (c.args.a * 2 ^ c.args.n) c.requires.most

pub returns-else-n-k : goal.returns-else-n-k
unfolding shifted
returns-else-n-k c = sym (shl_gone c.args.k c.args.a c.args.n (omega arith))
