use mathlib.Core.Path.{◌≡◌, sym, ◌∙◌}
use Prim.Native.Nat.{◌+◌, ◌<◌}
use native.Mathlib.Omega.{arith}
use Rattle.store.specs.Tables.{variable_mark, head_width, variables_in}
use Rattle.store.proofs.VariableTableLaws.{width_below}
use Rattle.store.proofs.LineTableLaws.{operand_variable, variable_fits}
use Rattle.refusal.specs.declared.Fault.TheVariants.{NotDeclared}
use Rattle.store.proofs.ExitLaws.{exit}
use Rattle.operand.proofs.VariableUseLaws.{variable_long, variable_found, variable_unknown}
use Rattle.operand.proofs.variables.variable.Goals as goal

pub returns-then-text-at-gt-NAME_BYTES : goal.returns-then-text-at-gt-NAME_BYTES
returns-then-text-at-gt-NAME_BYTES c = (variable_long _ _ _ c.if-text-at-gt-NAME_BYTES.true, tt)

pub returns-in_err-i : goal.returns-in_err-i
returns-in_err-i c =
    let missing : c.in_err-i.field-0.0 ≡ NotDeclared = cc (rw c.in_err-i.ensures.ok_part at c.in_err-i.ensures.value) in
    rw (exit c.from_residual.result c.in_err-i.field-0.0 c.from_residual.ensures, missing)
    (variable_unknown _ _ _ c.if-text-at-gt-NAME_BYTES.false (sym c.in_err-i.ensures.ok_part ∙ c.find.ensures), tt)

pub returns : goal.returns
returns c =
    let w = c.width_of in
    let i = c.in_ok-i.i in
    let a = c.args in
    let e = w.ensures a.file.now in
    let b : w.result < variable_mark = rw e (width_below a.file.now a.variables.now a.n i) in
    (rw (c.variable_head.ensures, operand_variable (variable_mark + head_width w.result) i (omega arith)) (variable_found _ _ _ c.if-text-at-gt-NAME_BYTES.false _ (sym c.in_ok-i.ensures.ok_part ∙ c.find.ensures)), rw c.variable_head.ensures (variable_fits (variables_in a.file.now a.variables.now a.n) i w.result e b))
