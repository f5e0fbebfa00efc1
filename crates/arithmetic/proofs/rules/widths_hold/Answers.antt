use mathlib.Core.Path.{sym, ap}
use mathlib.Core.Bool.{◌&&◌}
use Rattle.edition.specs.Edition.{is_width}
use Rattle.arithmetic.specs.Rules.{widths_hold}
use Rattle.arithmetic.proofs.RuleLaws.{taken_is}
use Rattle.arithmetic.proofs.rules.widths_hold.Goals as goal

pub returns : goal.returns
unfolding widths_hold
returns c = let s = c.args in
    rw (c.taken.ensures, c.arity.ensures, c.is_width-x.ensures, c.is_width-y.ensures, c.is_width-z.ensures, c.is_width.ensures) (ap (λ t. is_width s.k && t) (sym (taken_is s.op (λ w. is_width w.width) s.a s.b s.c)))
