use mathlib.Core.Path.{sym}
use native.Mathlib.Omega.{arith}
use Rattle.arithmetic.specs.Rules.{fits}
use Rattle.arithmetic.proofs.RuleLaws.{fits_shr, fits_wide}
use Rattle.arithmetic.proofs.rules.fits.Goals as goal

pub returns-then-w-lt-WORD_BITS : goal.returns-then-w-lt-WORD_BITS
unfolding fits
returns-then-w-lt-WORD_BITS c = let w = c.args.w in
    fits_shr w.value w.width

pub returns-else-w-lt-WORD_BITS : goal.returns-else-w-lt-WORD_BITS
unfolding fits
returns-else-w-lt-WORD_BITS c = let w = c.args.w in
    sym (fits_wide w.value w.width (omega arith) (omega arith))
