use Prim.Native.Nat.{◌<◌}
use mathlib.Core.Path.{◌≡◌, refl, sym, ap, ◌∙◌}
use native.Mathlib.Omega.{arith}
use lib.ListN.{length, take}
use lib.Seq.{length-take-le}
use Rattle.refusal.specs.Result.{Ok}
use Rattle.constraint.specs.Read.{add_line}
use Rattle.store.specs.Tables.{store_of}
use Rattle.store.specs.Progress.{stored_file}
use Rattle.store.proofs.LineTableLaws.{lines_length}
use Rattle.store.proofs.ExitLaws.{exit}
use Rattle.reader.proofs.ReaderLaws.{line_added, line_fits}
use Rattle.reader.proofs.reading.read_statement.Goals as goal

pub slice_bounds-line-end : goal.slice_bounds-line-end
slice_bounds-line-end c =
    let long : (length (take c.args.stop c.args.file.now) ≡ c.args.stop) = length-take-le c.args.stop c.args.file.now c.requires.1 in
    sym long

pub statement_line-requires : goal.statement_line-requires
statement_line-requires c =
    let long : (length (take c.args.stop c.args.file.now) ≡ c.args.stop) = length-take-le c.args.stop c.args.file.now c.requires.1 in
    let starts-in : (c.args.at < length (take c.args.stop c.args.file.now)) = omega (arith, long, c.requires.0) in
    (starts-in, c.requires.2.variables, c.requires.5, c.requires.3, c.requires.4)

pub returns-in_err-statement_line : goal.returns-in_err-statement_line
returns-in_err-statement_line c =
    let count : (length (stored_file c.args.file.now (store_of c.args.variables.now c.args.heads.now c.args.bodies.now) c.args.p).lines ≡ c.args.p.lines) = lines_length c.args.heads.now c.args.bodies.now c.args.p.lines in
    let r = c.in_err-statement_line.ensures in
    rw (exit c.from_residual.result c.in_err-statement_line.field-0.0 c.from_residual.ensures)
    (λ next. ap (add_line (stored_file c.args.file.now (store_of c.args.variables.now c.args.heads.now c.args.bodies.now) c.args.p)) (r.0 (stored_file c.args.file.now (store_of c.args.variables.now c.args.heads.now c.args.bodies.now) c.args.p) next refl count), r.3, r.4, tt, (λ f. tt), tt)

pub returns : goal.returns
returns c =
    let count : (length (stored_file c.args.file.now (store_of c.args.variables.now c.args.heads.now c.args.bodies.now) c.args.p).lines ≡ c.args.p.lines) = lines_length c.args.heads.now c.args.bodies.now c.args.p.lines in
    let r = c.in_ok-statement_line.ensures in
    let fits = r.2 in
    (λ next. ap Ok (line_added c.args.file.now c.args.variables.now _ _ _ _ c.args.p r.1) ∙ ap (add_line (stored_file c.args.file.now (store_of c.args.variables.now c.args.heads.now c.args.bodies.now) c.args.p)) (r.0 (stored_file c.args.file.now (store_of c.args.variables.now c.args.heads.now c.args.bodies.now) c.args.p) next refl count), r.3, r.4, fits.0, line_fits c.args.file.now c.args.variables.now _ _ _ _ c.args.p r.1 fits.1, c.requires.5)
