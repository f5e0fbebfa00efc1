use Rattle.std.proofs.Common.{◌^◌, ◌≤◌, le_of_lt, arith, pow_mono}
use Rattle.arithmetic.proofs.SignedLaws.{sext_low, sext_high}
use Rattle.evaluation.proofs.casts.sign_extend.Goals as goal

pub overflow_sub-result-else-a-top : goal.overflow_sub-result-else-a-top
overflow_sub-result-else-a-top c = let h : 2 ^ c.args.x ≤ 2 ^ c.args.k = pow_mono (le_of_lt c.requires.wider) in
    omega arith

pub returns-then-a-top : goal.returns-then-a-top
returns-then-a-top c = sext_low c.args.x c.args.k c.args.a (le_of_lt c.requires.wider) (omega arith) c.requires.bound

pub returns-else-a-top : goal.returns-else-a-top
returns-else-a-top c = rw (c.mask-else-a-top.ensures, c.mask.ensures) (sext_high c.args.x c.args.k c.args.a (le_of_lt c.requires.wider) (omega arith) c.requires.bound)
