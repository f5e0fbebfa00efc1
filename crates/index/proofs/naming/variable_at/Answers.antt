use mathlib.Core.Path.{◌≡◌, sym, ◌∙◌}
use lib.Dec.{leb}
use Rattle.store.specs.Tables.{variable_mark, head_at}
use Rattle.index.proofs.NamesLaws.{variable_there, variable_nowhere}
use Rattle.index.proofs.naming.variable_at.Goals as goal

pub returns-then-is_variable : goal.returns-then-is_variable
returns-then-is_variable c i h =
    let marked : (let s = c.args in leb variable_mark (head_at s.heads.now s.k s.slot) ≡ c.is_variable.result) = rw (← c.head_of.ensures) (sym c.is_variable.ensures) in
    rw c.body_of.ensures (variable_there _ _ _ _ i (marked ∙ c.if-is_variable.true))

pub returns : goal.returns
returns c i h =
    let marked : (let s = c.args in leb variable_mark (head_at s.heads.now s.k s.slot) ≡ c.is_variable.result) = rw (← c.head_of.ensures) (sym c.is_variable.ensures) in
    variable_nowhere _ _ _ _ i (marked ∙ c.if-is_variable.false) h
