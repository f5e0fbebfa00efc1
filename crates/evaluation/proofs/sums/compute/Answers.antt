use Rattle.std.proofs.Common.{◌≡◌, ◌+◌, ◌-◌, ◌*◌, ◌%◌, ◌^◌, arith}
use Rattle.arithmetic.specs.Arithmetic.{computed}
use Rattle.arithmetic.proofs.Powers.{mod_word, sub_word}
use Rattle.evaluation.proofs.sums.compute.Goals as goal

pub returns-in-Add : goal.returns-in-Add
unfolding computed
returns-in-Add c = rw (c.in-Add.is, c.low.ensures, c.wrapping_add_u64.ensures.value) (mod_word c.args.k (c.args.a + c.args.b) c.requires.most)

pub returns-in-Sub : goal.returns-in-Sub
unfolding computed
returns-in-Sub c = let e : c.wrapping_sub_u64.result ≡ (c.args.a + 2 ^ 64 - c.args.b) % 2 ^ 64 = omega arith in
    rw (c.in-Sub.is, c.low-in-Sub.ensures, e) (sub_word c.args.k c.args.a c.args.b c.requires.most c.requires.bound₂)

pub returns-in-Mul : goal.returns-in-Mul
unfolding computed
returns-in-Mul c = rw (c.in-Mul.is, c.low-in-Mul.ensures, c.product.ensures) (mod_word c.args.k (c.args.a * c.args.b) c.requires.most)
