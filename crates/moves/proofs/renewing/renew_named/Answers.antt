use mathlib.Core.Path.{◌≡◌, sym, ◌∙◌}
use mathlib.Core.Bool.{true, false}
use Rattle.store.specs.Tables.{line_in}
use Rattle.index.specs.Select.{names}
use Rattle.moves.proofs.renewing.renew_named.Goals as goal

pub returns-then-names : goal.returns-then-names
returns-then-names c xs f =
    let hit : ((let s = c.args in names s.i (line_in s.heads.now s.bodies.now s.k)) ≡ true) = sym c.names.ensures ∙ c.if-names.true in
    let one = c.renew_line.ensures xs f in
    let h = hit in
    record { made = rw h one.1; counted = rw h; differed = rw h one.0 }

pub returns : goal.returns
returns c xs f =
    let miss : ((let s = c.args in names s.i (line_in s.heads.now s.bodies.now s.k)) ≡ false) = sym c.names.ensures ∙ c.if-names.false in
    record { made = rw miss; counted = rw miss; differed = rw miss }
