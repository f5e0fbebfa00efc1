use mathlib.Core.Path.{sym, ◌∙◌}
use native.Mathlib.Omega.{arith}
use Rattle.store.specs.Tables.{variables_in}
use Rattle.store.proofs.LookupLaws.{variables_length}
use Rattle.clean.proofs.LineLaws.{put_no_declarations, declarations_length, put_declarations}
use Rattle.clean.proofs.lines.put_declarations.Goals as goal

pub returns-then-n-eq0 : goal.returns-then-n-eq0
returns-then-n-eq0 c = let a = c.args in
    put_no_declarations (variables_in a.file.now a.variables.now a.n) (variables_length a.file.now a.variables.now a.n ∙ c.if-n-eq0.true) _ _

pub put_bytes-first-requires : goal.put_bytes-first-requires
put_bytes-first-requires c = let a = c.args in
    omega (arith, c.requires.2, declarations_length (variables_in a.file.now a.variables.now a.n) (λ e. c.if-n-eq0.false (sym (variables_length a.file.now a.variables.now a.n) ∙ e)))

pub put_all_declared-requires : goal.put_all_declared-requires
put_all_declared-requires c = let a = c.args in
    (c.requires.0, c.requires.1, omega (arith, c.requires.2, declarations_length (variables_in a.file.now a.variables.now a.n) (λ e. c.if-n-eq0.false (sym (variables_length a.file.now a.variables.now a.n) ∙ e))))

pub returns : goal.returns
returns c = let a = c.args in
    put_declarations (variables_in a.file.now a.variables.now a.n) (λ e. c.if-n-eq0.false (sym (variables_length a.file.now a.variables.now a.n) ∙ e)) c.requires.2 c.put_bytes-first.ensures c.put_all_declared.ensures
