use native.Mathlib.Omega.{arith}
use lib.Bits.{bit_xor, xor_lt}
use lib.Count.{ones-le}
use Rattle.edition.specs.Word.{word_bits}
use Rattle.arithmetic.proofs.PlaceLaws.{differing_is}
use Rattle.arithmetic.proofs.bits.differing_bits.Goals as goal

pub overflow_cast-result : goal.overflow_cast-result
overflow_cast-result c = omega (arith, ones-le word_bits (bit_xor c.args.a c.args.b) (xor_lt word_bits c.args.a c.args.b c.ranges.a.fits c.ranges.b.fits))

pub returns : goal.returns
returns c = differing_is word_bits c.args.a c.args.b c.ranges.a.fits c.ranges.b.fits
