use mathlib.Core.Path.{sym, ◌∙◌}
use native.Mathlib.Omega.{arith}
use Rattle.store.specs.Tables.{variables_in}
use Rattle.clean.proofs.TokenLaws.{put_absent, named_length, put_named, constant_length, put_constant, operand_some}
use Rattle.clean.proofs.tokens.put_operand.Goals as goal

pub returns-then-head-eq-ABSENT : goal.returns-then-head-eq-ABSENT
returns-then-head-eq-ABSENT c = put_absent _ _ _ c.if-head-eq-ABSENT.true _ _

pub put_byte-token-requires : goal.put_byte-token-requires
put_byte-token-requires c = let a = c.args in
    omega (arith, c.requires.2, operand_some (variables_in a.file.now a.variables.now a.n) a.head a.body c.if-head-eq-ABSENT.false)

pub put_name-requires : goal.put_name-requires
put_name-requires c = let a = c.args in
    let long = named_length (variables_in a.file.now a.variables.now a.n) a.head a.body c.if-head-eq-ABSENT.false (sym c.is_variable.ensures ∙ c.if-is_variable.true) in
    (c.requires.0, omega (arith, c.requires.2, long))

pub returns-then-is_variable : goal.returns-then-is_variable
returns-then-is_variable c = put_named _ _ _ c.if-head-eq-ABSENT.false (sym c.is_variable.ensures ∙ c.if-is_variable.true) c.requires.2 c.put_byte-token.ensures c.put_name.ensures

pub put_number-width-requires : goal.put_number-width-requires
put_number-width-requires c = let a = c.args in
    let long = constant_length (variables_in a.file.now a.variables.now a.n) a.head a.body c.if-head-eq-ABSENT.false (sym c.is_variable.ensures ∙ c.if-is_variable.false) in
    omega (arith, c.requires.2, long)

pub put_type-requires : goal.put_type-requires
put_type-requires c = let a = c.args in
    let long = constant_length (variables_in a.file.now a.variables.now a.n) a.head a.body c.if-head-eq-ABSENT.false (sym c.is_variable.ensures ∙ c.if-is_variable.false) in
    rw c.head_width.ensures (c.requires.1, omega (arith, c.requires.2, long))

pub returns : goal.returns
returns c = let type = rw c.head_width.ensures at c.put_type.ensures in
    put_constant _ _ _ c.if-head-eq-ABSENT.false (sym c.is_variable.ensures ∙ c.if-is_variable.false) c.requires.2 c.put_byte-token.ensures c.put_number-width.ensures type
