use Prim.Native.Nat.{◌-◌, ◌≤◌, ◌<◌}
use mathlib.Core.Bool.{true}
use mathlib.Core.Path.{◌≡◌, sym, ◌∙◌}
use native.Mathlib.Omega.{arith}
use lib.ListN.{length, get_or, take, drop}
use lib.Seq.{length-take-le}
use Rattle.edition.specs.declared.Edition.{Edition}
use Rattle.edition.specs.Edition.{edition10, max_variables, max_name_bytes, max_width}
use Rattle.text.specs.Bytes.{is_letter}
use Rattle.text.specs.declared.Class.TheVariants.{NameByte, Solid}
use Rattle.text.specs.Scan.{is_of, past, token_from}
use Rattle.text.proofs.RunLaws.{strict_on}
use Rattle.text.proofs.FirstByteLaws.{name_solid, name_bounds}
use Rattle.std.proofs.Common.{rules}
use Rattle.refusal.specs.Result.{Ok}
use Rattle.store.proofs.ExitLaws.{mapped_ok, mapped_err, exit}
use Rattle.constraint.specs.Read.{in_constraint, declare}
use Rattle.store.specs.Tables.{length_unit, variables_in}
use Rattle.store.proofs.SearchLaws.{length_with_name}
use Rattle.declaration.specs.Internal.{declaration_result}
use Rattle.declaration.proofs.NewNameLaws.{FreshName, fresh_is, declared_not, declared_by, width_fits}
use Rattle.declaration.proofs.DeclareLaws.{put_fits, put_variables, put_searchable}
use Rattle.declaration.proofs.declarations.declare_next.Goals as goal

pub slice_bounds-line-end : goal.slice_bounds-line-end
slice_bounds-line-end c =
    let cut : (length (take c.args.stop c.args.file.now) ≡ c.args.stop) = length-take-le c.args.stop c.args.file.now c.requires.1 in
    sym cut

pub bounds-line-at : goal.bounds-line-at
bounds-line-at c =
    let cut : (length (take c.args.stop c.args.file.now) ≡ c.args.stop) = length-take-le c.args.stop c.args.file.now c.requires.1 in
    let starts : (c.args.at < length (take c.args.stop c.args.file.now)) = omega (arith, cut, c.requires.0) in
    starts

pub returns-then-not-is_letter : goal.returns-then-not-is_letter
returns-then-not-is_letter c =
    let cut : (length (take c.args.stop c.args.file.now) ≡ c.args.stop) = length-take-le c.args.stop c.args.file.now c.requires.1 in
    let starts : (c.args.at < length (take c.args.stop c.args.file.now)) = omega (arith, cut, c.requires.0) in
    (λ e. rw (c.of.ensures, ← declared_not e (variables_in c.args.file.now c.args.variables.now c.args.n) (take c.args.stop c.args.file.now) c.args.at starts ((sym c.is_letter.ensures ∙ c.if-not-is_letter.true))), tt, c.requires.4)

pub name_at-name-requires : goal.name_at-name-requires
name_at-name-requires c =
    let cut : (length (take c.args.stop c.args.file.now) ≡ c.args.stop) = length-take-le c.args.stop c.args.file.now c.requires.1 in
    let starts : (c.args.at < length (take c.args.stop c.args.file.now)) = omega (arith, cut, c.requires.0) in
    let letter : (is_letter (get_or (take c.args.stop c.args.file.now) c.args.at 0) ≡ true) = (sym c.is_letter.ensures ∙ c.if-not-is_letter.false) in
    (starts, letter)

pub type_at-found-requires : goal.type_at-found-requires
type_at-found-requires c =
    let cut : (length (take c.args.stop c.args.file.now) ≡ c.args.stop) = length-take-le c.args.stop c.args.file.now c.requires.1 in
    let starts : (c.args.at < length (take c.args.stop c.args.file.now)) = omega (arith, cut, c.requires.0) in
    let letter : (is_letter (get_or (take c.args.stop c.args.file.now) c.args.at 0) ≡ true) = (sym c.is_letter.ensures ∙ c.if-not-is_letter.false) in
    let bounds : (let colon = c.name_at-name.result.stop in (c.args.at ≤ colon) × (colon ≤ c.args.stop) × (length (take colon (take c.args.stop c.args.file.now)) ≡ colon)) = let b = name_bounds (take c.args.stop c.args.file.now) c.args.at starts letter c.name_at-name.result.stop c.name_at-name.ensures.0 in
    (omega (arith, b.0), omega (arith, b.1, cut), length-take-le c.name_at-name.result.stop (take c.args.stop c.args.file.now) b.1) in
    omega (arith, bounds, cut)

pub slice_bounds-declare-end : goal.slice_bounds-declare-end
slice_bounds-declare-end c =
    let cut : (length (take c.args.stop c.args.file.now) ≡ c.args.stop) = length-take-le c.args.stop c.args.file.now c.requires.1 in
    let starts : (c.args.at < length (take c.args.stop c.args.file.now)) = omega (arith, cut, c.requires.0) in
    let letter : (is_letter (get_or (take c.args.stop c.args.file.now) c.args.at 0) ≡ true) = (sym c.is_letter.ensures ∙ c.if-not-is_letter.false) in
    let bounds : (let colon = c.name_at-name.result.stop in (c.args.at ≤ colon) × (colon ≤ c.args.stop) × (length (take colon (take c.args.stop c.args.file.now)) ≡ colon)) = let b = name_bounds (take c.args.stop c.args.file.now) c.args.at starts letter c.name_at-name.result.stop c.name_at-name.ensures.0 in
    (omega (arith, b.0), omega (arith, b.1, cut), length-take-le c.name_at-name.result.stop (take c.args.stop c.args.file.now) b.1) in
    sym bounds.2

pub declare-requires : goal.declare-requires
declare-requires c =
    let cut : (length (take c.args.stop c.args.file.now) ≡ c.args.stop) = length-take-le c.args.stop c.args.file.now c.requires.1 in
    let starts : (c.args.at < length (take c.args.stop c.args.file.now)) = omega (arith, cut, c.requires.0) in
    let letter : (is_letter (get_or (take c.args.stop c.args.file.now) c.args.at 0) ≡ true) = (sym c.is_letter.ensures ∙ c.if-not-is_letter.false) in
    let bounds : (let colon = c.name_at-name.result.stop in (c.args.at ≤ colon) × (colon ≤ c.args.stop) × (length (take colon (take c.args.stop c.args.file.now)) ≡ colon)) = let b = name_bounds (take c.args.stop c.args.file.now) c.args.at starts letter c.name_at-name.result.stop c.name_at-name.ensures.0 in
    (omega (arith, b.0), omega (arith, b.1, cut), length-take-le c.name_at-name.result.stop (take c.args.stop c.args.file.now) b.1) in
    (omega (arith, bounds), c.requires.3, c.requires.5, c.name_at-name.ensures.1)

pub overflow_sub-colon : goal.overflow_sub-colon
overflow_sub-colon c =
    let cut : (length (take c.args.stop c.args.file.now) ≡ c.args.stop) = length-take-le c.args.stop c.args.file.now c.requires.1 in
    let starts : (c.args.at < length (take c.args.stop c.args.file.now)) = omega (arith, cut, c.requires.0) in
    let letter : (is_letter (get_or (take c.args.stop c.args.file.now) c.args.at 0) ≡ true) = (sym c.is_letter.ensures ∙ c.if-not-is_letter.false) in
    let bounds : (let colon = c.name_at-name.result.stop in (c.args.at ≤ colon) × (colon ≤ c.args.stop) × (length (take colon (take c.args.stop c.args.file.now)) ≡ colon)) = let b = name_bounds (take c.args.stop c.args.file.now) c.args.at starts letter c.name_at-name.result.stop c.name_at-name.ensures.0 in
    (omega (arith, b.0), omega (arith, b.1, cut), length-take-le c.name_at-name.result.stop (take c.args.stop c.args.file.now) b.1) in
    bounds.0

pub add-requires : goal.add-requires
add-requires c =
    let cut : (length (take c.args.stop c.args.file.now) ≡ c.args.stop) = length-take-le c.args.stop c.args.file.now c.requires.1 in
    let starts : (c.args.at < length (take c.args.stop c.args.file.now)) = omega (arith, cut, c.requires.0) in
    let letter : (is_letter (get_or (take c.args.stop c.args.file.now) c.args.at 0) ≡ true) = (sym c.is_letter.ensures ∙ c.if-not-is_letter.false) in
    let bounds : (let colon = c.name_at-name.result.stop in (c.args.at ≤ colon) × (colon ≤ c.args.stop) × (length (take colon (take c.args.stop c.args.file.now)) ≡ colon)) = let b = name_bounds (take c.args.stop c.args.file.now) c.args.at starts letter c.name_at-name.result.stop c.name_at-name.ensures.0 in
    (omega (arith, b.0), omega (arith, b.1, cut), length-take-le c.name_at-name.result.stop (take c.args.stop c.args.file.now) b.1) in
    let read : (c.declare.result ≡ Ok c.in_ok-width.width) = mapped_ok c.map_err.result c.declare.result (in_constraint (token_from (take c.args.stop c.args.file.now) c.args.at)) c.map_err.ensures.cases (λ e y l. search rules) _ c.in_ok-width.was in
    let fresh : (FreshName (variables_in c.args.file.now c.args.variables.now c.args.n) (drop c.args.at (take c.name_at-name.result.stop (take c.args.stop c.args.file.now))) c.type_at-found.result.width c.in_ok-width.width) = fresh_is edition10 (variables_in c.args.file.now c.args.variables.now c.args.n) (drop c.args.at (take c.name_at-name.result.stop (take c.args.stop c.args.file.now))) _ _ (rw read at (c.declare.ensures edition10)) in
    let narrow : (c.in_ok-width.width ≤ max_width) = width_fits _ _ c.type_at-found.ensures.0 _ fresh.typed in
    let fits : ((c.args.n < max_variables) × (c.args.at < length_unit) × (c.name_at-name.result.stop - c.args.at ≤ max_name_bytes)) = let b = bounds in
    put_fits c.args.file.now c.args.stop c.args.at c.name_at-name.result.stop c.requires.0 b.0 b.1 c.requires.1 c.requires.2 c.args.variables.now c.args.n _ 0 _ c.requires.5 c.requires.4 fresh in
    let f = fits in
    (c.requires.4, f.0, f.1, f.2, narrow)

pub returns-in_err-width : goal.returns-in_err-width
returns-in_err-width c =
    let cut : (length (take c.args.stop c.args.file.now) ≡ c.args.stop) = length-take-le c.args.stop c.args.file.now c.requires.1 in
    let starts : (c.args.at < length (take c.args.stop c.args.file.now)) = omega (arith, cut, c.requires.0) in
    let letter : (is_letter (get_or (take c.args.stop c.args.file.now) c.args.at 0) ≡ true) = (sym c.is_letter.ensures ∙ c.if-not-is_letter.false) in
    let says : ((e : Edition) → declaration_result (token_from (take c.args.stop c.args.file.now) c.args.at) (drop c.args.at (take c.name_at-name.result.stop (take c.args.stop c.args.file.now))) c.declare.result ≡ declare e (variables_in c.args.file.now c.args.variables.now c.args.n) (token_from (take c.args.stop c.args.file.now) c.args.at)) = λ e. rw (c.declare.ensures e) (declared_by e (variables_in c.args.file.now c.args.variables.now c.args.n) (take c.args.stop c.args.file.now) c.args.at starts letter c.name_at-name.result.stop c.name_at-name.ensures.0 _ c.type_at-found.ensures.0) in
    let bad = mapped_err c.map_err.result c.declare.result (in_constraint (token_from (take c.args.stop c.args.file.now) c.args.at)) c.map_err.ensures.cases (λ e y l. search rules) _ c.in_err-width.was in
    rw (exit c.from_residual.result c.in_err-width.field-0.0 c.from_residual.ensures, bad.2)
    (λ e. rw (← rw bad.1 at (says e)), tt, c.requires.4)

pub returns : goal.returns
returns c =
    let cut : (length (take c.args.stop c.args.file.now) ≡ c.args.stop) = length-take-le c.args.stop c.args.file.now c.requires.1 in
    let starts : (c.args.at < length (take c.args.stop c.args.file.now)) = omega (arith, cut, c.requires.0) in
    let letter : (is_letter (get_or (take c.args.stop c.args.file.now) c.args.at 0) ≡ true) = (sym c.is_letter.ensures ∙ c.if-not-is_letter.false) in
    let bounds : (let colon = c.name_at-name.result.stop in (c.args.at ≤ colon) × (colon ≤ c.args.stop) × (length (take colon (take c.args.stop c.args.file.now)) ≡ colon)) = let b = name_bounds (take c.args.stop c.args.file.now) c.args.at starts letter c.name_at-name.result.stop c.name_at-name.ensures.0 in
    (omega (arith, b.0), omega (arith, b.1, cut), length-take-le c.name_at-name.result.stop (take c.args.stop c.args.file.now) b.1) in
    let says : ((e : Edition) → declaration_result (token_from (take c.args.stop c.args.file.now) c.args.at) (drop c.args.at (take c.name_at-name.result.stop (take c.args.stop c.args.file.now))) c.declare.result ≡ declare e (variables_in c.args.file.now c.args.variables.now c.args.n) (token_from (take c.args.stop c.args.file.now) c.args.at)) = λ e. rw (c.declare.ensures e) (declared_by e (variables_in c.args.file.now c.args.variables.now c.args.n) (take c.args.stop c.args.file.now) c.args.at starts letter c.name_at-name.result.stop c.name_at-name.ensures.0 _ c.type_at-found.ensures.0) in
    let read : (c.declare.result ≡ Ok c.in_ok-width.width) = mapped_ok c.map_err.result c.declare.result (in_constraint (token_from (take c.args.stop c.args.file.now) c.args.at)) c.map_err.ensures.cases (λ e y l. search rules) _ c.in_ok-width.was in
    let fresh : (FreshName (variables_in c.args.file.now c.args.variables.now c.args.n) (drop c.args.at (take c.name_at-name.result.stop (take c.args.stop c.args.file.now))) c.type_at-found.result.width c.in_ok-width.width) = fresh_is edition10 (variables_in c.args.file.now c.args.variables.now c.args.n) (drop c.args.at (take c.name_at-name.result.stop (take c.args.stop c.args.file.now))) _ _ (rw read at (c.declare.ensures edition10)) in
    let narrow : (c.in_ok-width.width ≤ max_width) = width_fits _ _ c.type_at-found.ensures.0 _ fresh.typed in
    let ends : (c.type_at-found.result.stop ≡ past (is_of Solid) (take c.args.stop c.args.file.now) c.args.at) = rw fresh.typed at c.type_at-found.ensures.1 ∙ strict_on (is_of NameByte) (is_of Solid) name_solid (take c.args.stop c.args.file.now) c.args.at c.name_at-name.result.stop (omega (arith, starts)) c.name_at-name.ensures.0 in
    let fits : ((c.args.n < max_variables) × (c.args.at < length_unit) × (c.name_at-name.result.stop - c.args.at ≤ max_name_bytes)) = let b = bounds in
    put_fits c.args.file.now c.args.stop c.args.at c.name_at-name.result.stop c.requires.0 b.0 b.1 c.requires.1 c.requires.2 c.args.variables.now c.args.n _ 0 _ c.requires.5 c.requires.4 fresh in
    let b = bounds in
    let h = c.name_at-name.ensures.1 in
    (λ e. rw (c.add.ensures, put_variables c.args.file.now c.args.stop c.args.at _ c.requires.0 b.0 b.1 c.requires.1 c.requires.2 c.args.variables.now c.args.n _ _ _ c.requires.5 c.requires.4 fresh narrow h, ← rw read at (says e)), (ends, fits.0, rw c.add.ensures (put_searchable c.args.file.now c.args.stop c.args.at _ c.requires.0 b.0 b.1 c.requires.1 c.requires.2 c.args.variables.now c.args.n _ _ _ c.requires.5 c.requires.4 fresh narrow h)), rw (c.add.ensures, length_with_name) c.requires.4)
