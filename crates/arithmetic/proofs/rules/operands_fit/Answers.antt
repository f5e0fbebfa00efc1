use mathlib.Core.Path.{sym, ◌∙◌}
use Rattle.arithmetic.specs.Rules.{fits, operands_fit}
use Rattle.arithmetic.proofs.RuleLaws.{taken_is}
use Rattle.arithmetic.proofs.rules.operands_fit.Goals as goal

pub returns : goal.returns
unfolding operands_fit
returns c = let s = c.args in
    c.taken.ensures ∙ rw (c.arity.ensures, c.fits.ensures, c.fits-2.ensures, c.fits-3.ensures) (sym (taken_is s.op fits s.a s.b s.c))
