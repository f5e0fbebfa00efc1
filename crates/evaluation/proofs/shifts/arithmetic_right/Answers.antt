use Rattle.std.proofs.Common.{◌-◌, ◌^◌, ◌∙◌, div-le_self, arith}
use Rattle.arithmetic.specs.Arithmetic.{shifted}
use Rattle.arithmetic.proofs.SignedLaws.{ashr_low, ashr_high}
use Rattle.evaluation.proofs.shifts.arithmetic_right.Goals as goal

pub overflow_sub-result : goal.overflow_sub-result
unfolding shifted
overflow_sub-result c = let m = c.mask-m.result in
    omega (arith, c.logical_right-else-a-top.ensures, div-le_self (m - c.args.a) (2 ^ c.args.n))

pub returns-then-a-top : goal.returns-then-a-top
unfolding shifted
returns-then-a-top c = c.logical_right.ensures ∙ ashr_low c.args.k c.args.a c.args.n (omega arith) (omega arith)

pub returns-else-a-top : goal.returns-else-a-top
unfolding shifted
returns-else-a-top c = rw (c.logical_right-else-a-top.ensures, c.mask-m.ensures) (ashr_high c.args.k c.args.a c.args.n (omega arith) (omega arith))
