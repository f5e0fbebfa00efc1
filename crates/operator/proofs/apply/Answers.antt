use Rattle.std.proofs.Common.{◌≡◌, ◌∙◌, true, sym}
use Rattle.arithmetic.specs.Rules.{widths_hold, typed, operands_fit}
use Rattle.arithmetic.proofs.ResultLaws.{meaning_is}
use Rattle.arithmetic.proofs.RuleLaws.{evaluable}
use Rattle.operator.specs.Apply.{apply_outcome}
use Rattle.operator.proofs.apply.Goals as goal

pub evaluate-requires : goal.evaluate-requires
evaluate-requires c =
    evaluable _ _ _ _ _ (sym c.widths_hold.ensures ∙ c.if-not-widths_hold.false) (sym c.typed.ensures ∙ c.if-not-typed.false) (sym c.operands_fit.ensures ∙ c.if-not-operands_fit.false)

pub returns : goal.returns
unfolding apply_outcome
returns c =
    let s = c.args in
    let w : widths_hold s.op s.k s.a s.b s.c ≡ true = sym c.widths_hold.ensures ∙ c.if-not-widths_hold.false in
    let t : typed s.op s.k s.a s.b s.c ≡ true = sym c.typed.ensures ∙ c.if-not-typed.false in
    let f : operands_fit s.op s.a s.b s.c ≡ true = sym c.operands_fit.ensures ∙ c.if-not-operands_fit.false in
    rw (w, t, f, meaning_is s.op s.k s.a s.b s.c w t, c.evaluate.ensures)
