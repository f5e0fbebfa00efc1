use Rattle.std.proofs.Common.{ℕ, ◌+◌, ◌*◌, ◌%◌, ◌^◌, ap, ◌∙◌, shr_lt}
use lib.Bits.{bit_and, mask_lt}
use Rattle.arithmetic.proofs.Powers.{product_fits, low_product_of}
use Rattle.evaluation.proofs.sums.product.Goals as goal

pub overflow_mul-a1 : goal.overflow_mul-a1
overflow_mul-a1 c = product_fits (shr_lt 32 32 c.ranges.a.fits) (mask_lt c.args.b 32)

pub overflow_mul-a0 : goal.overflow_mul-a0
overflow_mul-a0 c = product_fits (mask_lt c.args.a 32) (shr_lt 32 32 c.ranges.b.fits)

pub overflow_mul-a0-2 : goal.overflow_mul-a0-2
overflow_mul-a0-2 c = product_fits (mask_lt c.args.a 32) (mask_lt c.args.b 32)

pub returns : goal.returns
returns c = let s = c.args in
    c.wrapping_add_u64.ensures.value
    ∙ ap (λ (m : ℕ). (bit_and s.a 4294967295 * bit_and s.b 4294967295 + (m * 2 ^ 32) % 2 ^ 64) % 2 ^ 64) c.wrapping_add_u64-middle.ensures.value
    ∙ low_product_of s.a s.b
