use mathlib.Core.Path.{sym, ◌∙◌}
use Rattle.store.proofs.LookupLaws.{variables_length}
use Rattle.declaration.proofs.NewNameLaws.{new_long, new_full, new_reserved, new_declared, new_fresh}
use Rattle.declaration.proofs.declaring.new_name.Goals as goal

pub returns-then-text-at-gt-NAME_BYTES : goal.returns-then-text-at-gt-NAME_BYTES
returns-then-text-at-gt-NAME_BYTES c = let a = c.args in
    λ e. new_long e _ a.text.now a.at a.width _ (variables_length _ _ _) c.if-text-at-gt-NAME_BYTES.true

pub returns-then-n-ge-VARIABLES : goal.returns-then-n-ge-VARIABLES
returns-then-n-ge-VARIABLES c = let a = c.args in
    λ e. new_full e _ a.text.now a.at a.width _ (variables_length _ _ _) c.if-text-at-gt-NAME_BYTES.false c.if-n-ge-VARIABLES.true

pub returns-then-is_reserved : goal.returns-then-is_reserved
returns-then-is_reserved c = let a = c.args in
    λ e. new_reserved e _ a.text.now a.at a.width _ (variables_length _ _ _) c.if-text-at-gt-NAME_BYTES.false c.if-n-ge-VARIABLES.false (sym (c.is_reserved.ensures e) ∙ c.if-is_reserved.true)

pub returns-in-Some : goal.returns-in-Some
returns-in-Some c = let a = c.args in
    λ e. new_declared e _ a.text.now a.at a.width _ (variables_length _ _ _) c.if-text-at-gt-NAME_BYTES.false c.if-n-ge-VARIABLES.false (sym (c.is_reserved.ensures e) ∙ c.if-is_reserved.false) _ (sym c.in-Some.is ∙ c.find.ensures)

pub returns-in-None : goal.returns-in-None
returns-in-None c = let a = c.args in
    λ e. new_fresh e _ a.text.now a.at a.width _ (variables_length _ _ _) c.if-text-at-gt-NAME_BYTES.false c.if-n-ge-VARIABLES.false (sym (c.is_reserved.ensures e) ∙ c.if-is_reserved.false) (sym c.in-None.is ∙ c.find.ensures)
