use mathlib.Core.Path.{sym}
use native.Mathlib.Nat.{lt_of_lt_of_le, mod-eq_of_lt}
use lib.Pow.{pow_mono}
use Rattle.arithmetic.proofs.Powers.{one_shl}
use Rattle.arithmetic.proofs.rules.reduced.Goals as goal

pub returns-then-k-lt-WORD_BITS : goal.returns-then-k-lt-WORD_BITS
returns-then-k-lt-WORD_BITS c = rw (one_shl c.args.k c.if-k-lt-WORD_BITS.true)

pub returns-else-k-lt-WORD_BITS : goal.returns-else-k-lt-WORD_BITS
returns-else-k-lt-WORD_BITS c = sym (mod-eq_of_lt (lt_of_lt_of_le c.ranges.x.fits (pow_mono c.if-k-lt-WORD_BITS.false)))
