use mathlib.Core.Path.{sym, ◌∙◌}
use borrow.Author.Rules.{rules}
use Rattle.judge.proofs.UnfitLaws.{unfit_start, unfit_later, unfit_here, unfit_nowhere}
use Rattle.judge.proofs.in_use.first_unfit.Goals as goal

pub loop-i-init : goal.loop-i-init
loop-i-init c = (search rules, λ file. unfit_start file _ _ _)

pub loop-i-preserved : goal.loop-i-preserved
loop-i-preserved c = (search rules, λ file. sym (unfit_later file _ _ _ c.requires.1 _ c.loop-i-test.true (rw (c.width_of.ensures file) at (sym c.fits.ensures ∙ c.if-fits.true))) ∙ c.loop-i.invariant.1 file)

pub returns-else-fits : goal.returns-else-fits
returns-else-fits c file = sym (unfit_here file _ _ _ c.requires.1 _ c.loop-i-test.true (rw (c.width_of.ensures file) at (sym c.fits.ensures ∙ c.if-fits.false))) ∙ c.loop-i.invariant.1 file

pub returns : goal.returns
returns c file = sym (unfit_nowhere file _ _ _ c.requires.1 _ c.loop-i-test.false) ∙ c.loop-i.invariant.1 file
