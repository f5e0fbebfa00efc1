use Prim.Native.Nat.{◌<◌}
use mathlib.Core.Path.{◌≡◌, sym, ◌∙◌}
use native.Mathlib.Omega.{arith}
use lib.ListN.{length, take}
use lib.Seq.{length-take-le}
use Rattle.text.specs.Scan.{line_at}
use Rattle.constraint.specs.declared.Kind.TheVariants.{Skipped, OfVersion, OfExpectation, OfDeclarations, OfStatement, OfNoKind}
use Rattle.constraint.specs.Read.{read_as}
use Rattle.store.specs.Tables.{store_of}
use Rattle.store.specs.Progress.{stored_file}
use Rattle.reader.proofs.ReaderLaws.{of_kind, header_fits, header_searchable, variables_fit, header_room, variables_room}
use Rattle.reader.proofs.reading.read_line.Goals as goal

pub slice_bounds-kind_of-end : goal.slice_bounds-kind_of-end
slice_bounds-kind_of-end c =
    let long : (length (take c.args.stop c.args.file.now) ≡ c.args.stop) = length-take-le c.args.stop c.args.file.now c.requires.1 in
    sym long

pub kind_of-requires : goal.kind_of-requires
kind_of-requires c =
    let long : (length (take c.args.stop c.args.file.now) ≡ c.args.stop) = length-take-le c.args.stop c.args.file.now c.requires.1 in
    let starts-in : (c.args.at < length (take c.args.stop c.args.file.now)) = omega (arith, long, c.requires.0) in
    starts-in

pub slice_bounds-version_line-end : goal.slice_bounds-version_line-end
slice_bounds-version_line-end c =
    let long : (length (take c.args.stop c.args.file.now) ≡ c.args.stop) = length-take-le c.args.stop c.args.file.now c.requires.1 in
    sym long

pub version_line-requires : goal.version_line-requires
version_line-requires c =
    let long : (length (take c.args.stop c.args.file.now) ≡ c.args.stop) = length-take-le c.args.stop c.args.file.now c.requires.1 in
    let starts-in : (c.args.at < length (take c.args.stop c.args.file.now)) = omega (arith, long, c.requires.0) in
    starts-in

pub slice_bounds-expectation_line-end : goal.slice_bounds-expectation_line-end
slice_bounds-expectation_line-end c =
    let long : (length (take c.args.stop c.args.file.now) ≡ c.args.stop) = length-take-le c.args.stop c.args.file.now c.requires.1 in
    sym long

pub expectation_line-requires : goal.expectation_line-requires
expectation_line-requires c =
    let long : (length (take c.args.stop c.args.file.now) ≡ c.args.stop) = length-take-le c.args.stop c.args.file.now c.requires.1 in
    let starts-in : (c.args.at < length (take c.args.stop c.args.file.now)) = omega (arith, long, c.requires.0) in
    starts-in

pub returns-in-Skipped : goal.returns-in-Skipped
unfolding read_as
returns-in-Skipped c = (λ next. of_kind Skipped (stored_file c.args.file.now (store_of c.args.variables.now c.args.heads.now c.args.bodies.now) c.args.p) ((line_at (take c.args.stop c.args.file.now) c.args.at next)) c.kind_of.ensures c.in-Skipped.is, c.requires.4, c.requires.5, tt, λ f. f)

pub returns-in-OfVersion : goal.returns-in-OfVersion
unfolding read_as
returns-in-OfVersion c = let r = c.version_line.ensures in
    (λ next. r.0 c.args.file.now (store_of c.args.variables.now c.args.heads.now c.args.bodies.now) next ∙ of_kind OfVersion (stored_file c.args.file.now (store_of c.args.variables.now c.args.heads.now c.args.bodies.now) c.args.p) ((line_at (take c.args.stop c.args.file.now) c.args.at next)) c.kind_of.ensures c.in-OfVersion.is, c.requires.4, header_searchable c.args.file.now (store_of c.args.variables.now c.args.heads.now c.args.bodies.now) c.args.p c.version_line.result r.1 c.requires.5, header_room c.args.p c.version_line.result r.1, header_fits c.args.file.now (store_of c.args.variables.now c.args.heads.now c.args.bodies.now) c.args.p c.version_line.result r.1)

pub returns-in-OfExpectation : goal.returns-in-OfExpectation
unfolding read_as
returns-in-OfExpectation c = let r = c.expectation_line.ensures in
    (λ next. r.0 c.args.file.now (store_of c.args.variables.now c.args.heads.now c.args.bodies.now) next ∙ of_kind OfExpectation (stored_file c.args.file.now (store_of c.args.variables.now c.args.heads.now c.args.bodies.now) c.args.p) ((line_at (take c.args.stop c.args.file.now) c.args.at next)) c.kind_of.ensures c.in-OfExpectation.is, c.requires.4, header_searchable c.args.file.now (store_of c.args.variables.now c.args.heads.now c.args.bodies.now) c.args.p c.expectation_line.result r.1 c.requires.5, header_room c.args.p c.expectation_line.result r.1, header_fits c.args.file.now (store_of c.args.variables.now c.args.heads.now c.args.bodies.now) c.args.p c.expectation_line.result r.1)

pub returns-in-OfDeclarations : goal.returns-in-OfDeclarations
unfolding read_as
returns-in-OfDeclarations c = let r = c.declaration_line.ensures in
    (λ next. r.0 c.args.heads.now c.args.bodies.now next ∙ of_kind OfDeclarations (stored_file c.args.file.now (store_of c.args.variables.now c.args.heads.now c.args.bodies.now) c.args.p) ((line_at (take c.args.stop c.args.file.now) c.args.at next)) c.kind_of.ensures c.in-OfDeclarations.is, record { variables = r.1; heads = c.requires.4.heads; bodies = c.requires.4.bodies }, r.3, variables_room c.args.p c.declaration_line.result r.2, λ f. variables_fit c.args.file.now _ c.args.p c.declaration_line.result r.2)

pub returns-in-OfStatement : goal.returns-in-OfStatement
unfolding read_as
returns-in-OfStatement c = let r = c.read_statement.ensures in
    (λ next. r.0 next ∙ of_kind (OfStatement c.in-OfStatement.form) (stored_file c.args.file.now (store_of c.args.variables.now c.args.heads.now c.args.bodies.now) c.args.p) ((line_at (take c.args.stop c.args.file.now) c.args.at next)) c.kind_of.ensures c.in-OfStatement.is, record { variables = c.requires.4.variables; heads = r.1; bodies = r.2 }, r.5, r.3, r.4)

pub returns-in-OfNoKind : goal.returns-in-OfNoKind
unfolding read_as
returns-in-OfNoKind c = (λ next. rw c.of.ensures (of_kind OfNoKind (stored_file c.args.file.now (store_of c.args.variables.now c.args.heads.now c.args.bodies.now) c.args.p) ((line_at (take c.args.stop c.args.file.now) c.args.at next)) c.kind_of.ensures c.in-OfNoKind.is), c.requires.4, tt, tt, λ f. tt)
