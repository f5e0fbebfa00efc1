use Prim.Native.Nat.{◌^◌}
use mathlib.Core.Path.{◌≡◌, refl, sym, ap, ◌∙◌}
use lib.Dec.{ltb}
use Rattle.arithmetic.proofs.RuleLaws.{fits_test}
use Rattle.constraint.specs.File.{width_at}
use Rattle.store.specs.Tables.{variables_in}
use Rattle.store.proofs.LookupLaws.{variables_length}
use Rattle.answer.proofs.SettingLaws.{found_below, named_long, named_unknown, named_set, named_unfit}
use Rattle.answer.proofs.settings.setting_of.Goals as goal

pub returns-then-text-at-gt-NAME_BYTES : goal.returns-then-text-at-gt-NAME_BYTES
returns-then-text-at-gt-NAME_BYTES c = let a = c.args in (named_long (variables_in c.args.file.now c.args.variables.now c.args.n) a.text.now a.at a.stop a.v c.if-text-at-gt-NAME_BYTES.true, tt)

pub returns-in_default : goal.returns-in_default
returns-in_default c = let a = c.args in (named_unknown (variables_in c.args.file.now c.args.variables.now c.args.n) a.text.now a.at a.stop a.v c.if-text-at-gt-NAME_BYTES.false (sym c.in_default.is ∙ c.find.ensures), tt)

pub returns : goal.returns
returns c =
    let fit : (c.fits.result ≡ ltb c.args.v (2 ^ width_at (variables_in c.args.file.now c.args.variables.now c.args.n) c.in-Some.i)) = let a = c.args in
    c.fits.ensures ∙ fits_test _ _ ∙ rw (c.width_of.ensures a.file.now) in
    let a = c.args in
    let e = sym c.in-Some.is ∙ c.find.ensures in
    (named_set (variables_in c.args.file.now c.args.variables.now c.args.n) a.text.now a.at a.stop a.v c.if-text-at-gt-NAME_BYTES.false c.in-Some.i e (sym fit ∙ c.if-not-fits.false), (found_below _ (variables_in c.args.file.now c.args.variables.now c.args.n) c.in-Some.i a.n (variables_length a.file.now a.variables.now a.n) e, refl))

pub returns-then-not-fits : goal.returns-then-not-fits
returns-then-not-fits c =
    let fit : (c.fits.result ≡ ltb c.args.v (2 ^ width_at (variables_in c.args.file.now c.args.variables.now c.args.n) c.in-Some.i)) = let a = c.args in
    c.fits.ensures ∙ fits_test _ _ ∙ rw (c.width_of.ensures a.file.now) in
    let a = c.args in
    (named_unfit (variables_in c.args.file.now c.args.variables.now c.args.n) a.text.now a.at a.stop a.v c.if-text-at-gt-NAME_BYTES.false c.in-Some.i (sym c.in-Some.is ∙ c.find.ensures) (sym fit ∙ c.if-not-fits.true), tt)
