use Rattle.std.proofs.Common.{◌+◌, ◌-◌, ◌^◌}
use Rattle.arithmetic.proofs.Powers.{mod_word}
use Rattle.evaluation.proofs.orders.biased.Goals as goal

pub returns : goal.returns
returns c = rw (c.low.ensures, c.wrapping_add_u64.ensures.value, c.top.ensures) (mod_word c.args.k (c.args.a + 2 ^ (c.args.k - 1)) c.requires.most)
