use mathlib.Core.Path.{refl, sym, ap, ◌∙◌}
use native.Mathlib.Omega.{arith}
use lib.Seq.{length-take-le}
use Rattle.std.specs.Prelude.{None, Some}
use Rattle.std.specs.Result.{result_ok}
use Rattle.text.proofs.TokenLaws.{find_bounds}
use Rattle.declaration.proofs.HeaderLaws.{version_is}
use Rattle.declaration.proofs.header.version_at.Goals as goal

pub slice_bounds-number_at-end : goal.slice_bounds-number_at-end
slice_bounds-number_at-end c = let b = find_bounds c.args.text.now c.args.at 46 c.scan-dot.result c.requires c.scan-dot.ensures in
    sym (length-take-le c.scan-dot.result c.args.text.now b.1)

pub number_at-requires : goal.number_at-requires
number_at-requires c = let b = find_bounds c.args.text.now c.args.at 46 c.scan-dot.result c.requires c.scan-dot.ensures in
    omega (arith, length-take-le c.scan-dot.result c.args.text.now b.1)

pub number_behind-requires : goal.number_behind-requires
number_behind-requires c = (find_bounds c.args.text.now c.args.at 46 c.scan-dot.result c.requires c.scan-dot.ensures).1

pub returns-in_err-major : goal.returns-in_err-major
returns-in_err-major c = c.from_residual.ensures
    ∙ version_is c.args.text.now c.args.at c.scan-dot.result c.requires c.scan-dot.ensures None _ (c.in_err-major.ensures.value ∙ ap result_ok c.number_at.ensures) refl

pub returns-in_err-minor : goal.returns-in_err-minor
returns-in_err-minor c = c.from_residual-in_err-minor.ensures
    ∙ version_is c.args.text.now c.args.at c.scan-dot.result c.requires c.scan-dot.ensures (Some c.in_ok-major.major) None (c.in_ok-major.ensures.value ∙ ap result_ok c.number_at.ensures) (c.in_err-minor.ensures.value ∙ ap result_ok c.number_behind.ensures)

pub returns : goal.returns
returns c = c.edition_numbered.ensures
    ∙ version_is c.args.text.now c.args.at c.scan-dot.result c.requires c.scan-dot.ensures (Some c.in_ok-major.major) (Some c.in_ok-minor.minor) (c.in_ok-major.ensures.value ∙ ap result_ok c.number_at.ensures) (c.in_ok-minor.ensures.value ∙ ap result_ok c.number_behind.ensures)
