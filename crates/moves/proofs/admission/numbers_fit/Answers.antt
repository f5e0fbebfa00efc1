use mathlib.Core.Path.{◌≡◌, sym, ◌∙◌}
use mathlib.Core.Bool.{true}
use lib.Seq.{length-take-le}
use Rattle.arithmetic.specs.Rules.{fits}
use Rattle.moves.proofs.GateLaws.{file_sized, variable_missing, value_too_large, values_unfit, verdicts_unfit, numbers_pass}
use Rattle.moves.proofs.admission.numbers_fit.Goals as goal

pub returns-then-n-i : goal.returns-then-n-i
returns-then-n-i c file ls e = rw c.of.ensures (variable_missing _ _ _ (file_sized file _ _ ls _ e) _ _ _ _ c.if-n-i.true)

pub returns-then-not-fits : goal.returns-then-not-fits
returns-then-not-fits c file ls e = rw c.of-then-not-fits.ensures (value_too_large _ _ _ (file_sized file _ _ ls _ e) _ _ _ _ c.if-n-i.false _ (sym (c.width_of.ensures file)) (sym c.fits.ensures ∙ c.if-not-fits.true))

pub slice_bounds-first_above-end : goal.slice_bounds-first_above-end
slice_bounds-first_above-end c = sym (length-take-le _ c.args.verdicts.now c.requires.3)

pub returns-in-Some : goal.returns-in-Some
returns-in-Some c file ls e =
    rw c.of-in-Some.ensures (values_unfit _ _ _ (file_sized file _ _ ls _ e) _ _ _ _ c.if-n-i.false _ (sym (c.width_of.ensures file)) (sym c.fits.ensures ∙ c.if-not-fits.false) _ (c.in-Some.ensures file))

pub returns-in-Some-first_above : goal.returns-in-Some-first_above
returns-in-Some-first_above c file ls e =
    rw c.of-in-Some-first_above.ensures
    (verdicts_unfit _ _ _ (file_sized file _ _ ls _ e) _ _ _ _ c.if-n-i.false _ (sym (c.width_of.ensures file)) (sym c.fits.ensures ∙ c.if-not-fits.false) (c.in_default.ensures file) _ c.in-Some-first_above.ensures)

pub returns : goal.returns
returns c file ls e =
    numbers_pass _ _ _ (file_sized file _ _ ls _ e) _ _ _ _ c.if-n-i.false _ (sym (c.width_of.ensures file)) (sym c.fits.ensures ∙ c.if-not-fits.false) (c.in_default.ensures file) c.in_default-first_above.ensures
