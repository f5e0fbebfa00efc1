use Prim.Native.Nat.{ℕ, ◌+◌, ◌<◌}
use mathlib.Core.Bool.{true}
use mathlib.Core.List.{List}
use mathlib.Core.Path.{◌≡◌, refl, sym, ap, ◌∙◌}
use native.Mathlib.Omega.{arith}
use lib.ListN.{length, take, drop}
use lib.Seq.{length-take-le}
use borrow.Author.Tests.{eq-eqb, ne_eqb}
use Rattle.refusal.specs.declared.Subject.TheVariants.{Constraint}
use Rattle.refusal.specs.declared.Fault.TheVariants.{TokenCount}
use Rattle.refusal.specs.Result.{Err, refusal}
use Rattle.text.specs.declared.Class.TheVariants.{Space}
use Rattle.text.specs.Lines.{tokens_from}
use Rattle.text.specs.Scan.{is_of, line_at}
use Rattle.text.proofs.RunLaws.{scan_bounds}
use Rattle.text.proofs.TokenLaws.{tokens_done, tokens_turn}
use Rattle.constraint.specs.Read.{in_header, declare_all, read_declarations}
use Rattle.store.specs.Tables.{store_of}
use Rattle.store.specs.Progress.{stored_file}
use Rattle.store.proofs.ExitLaws.{exit}
use Rattle.declaration.proofs.HeaderLaws.{in_header_lem}
use Rattle.declaration.proofs.DeclareLaws.{declarations_misplaced, declarations_missing, declarations_read}
use Rattle.declaration.proofs.declarations.declaration_line.Goals as goal

pub returns-then-m-ne0 : goal.returns-then-m-ne0
returns-then-m-ne0 c = (λ heads bodies next. rw c.of.ensures (declarations_misplaced ((stored_file c.args.file.now (store_of c.args.variables.now heads bodies) c.args.p)) (take c.args.stop c.args.file.now) c.args.at next (in_header_lem _ _ c.args.p ∙ ne_eqb _ 0 c.if-m-ne0.true)), c.requires.4, tt, tt)

pub slice_bounds-spaces-end : goal.slice_bounds-spaces-end
slice_bounds-spaces-end c =
    let cut : (length (take c.args.stop c.args.file.now) ≡ c.args.stop) = length-take-le c.args.stop c.args.file.now c.requires.1 in
    sym cut

pub spaces-requires : goal.spaces-requires
spaces-requires c =
    let cut : (length (take c.args.stop c.args.file.now) ≡ c.args.stop) = length-take-le c.args.stop c.args.file.now c.requires.1 in
    omega (arith, cut)

pub returns-then-spaces-stop : goal.returns-then-spaces-stop
returns-then-spaces-stop c =
    let cut : (length (take c.args.stop c.args.file.now) ≡ c.args.stop) = length-take-le c.args.stop c.args.file.now c.requires.1 in
    let header : ((heads bodies : List ℕ) → in_header ((stored_file c.args.file.now (store_of c.args.variables.now heads bodies) c.args.p)) ≡ true) = λ heads bodies. in_header_lem _ _ c.args.p ∙ eq-eqb _ 0 c.if-m-ne0.false in
    (λ heads bodies next. rw c.of-then-spaces-stop.ensures (ap (λ (n : ℕ). Err (refusal Constraint TokenCount n)) (sym cut) ∙ declarations_missing ((stored_file c.args.file.now (store_of c.args.variables.now heads bodies) c.args.p)) (take c.args.stop c.args.file.now) c.args.at next (header heads bodies) (omega (arith, cut)) (tokens_done (take c.args.stop c.args.file.now) _ _ c.spaces.ensures (c.if-spaces-stop.true ∙ sym cut))), c.requires.4, tt, tt)

pub returns-in_err-n : goal.returns-in_err-n
returns-in_err-n c =
    let cut : (length (take c.args.stop c.args.file.now) ≡ c.args.stop) = length-take-le c.args.stop c.args.file.now c.requires.1 in
    let header : ((heads bodies : List ℕ) → in_header ((stored_file c.args.file.now (store_of c.args.variables.now heads bodies) c.args.p)) ≡ true) = λ heads bodies. in_header_lem _ _ c.args.p ∙ eq-eqb _ 0 c.if-m-ne0.false in
    let read : ((heads bodies : List ℕ) (next : ℕ) → let f = (stored_file c.args.file.now (store_of c.args.variables.now heads bodies) c.args.p) in declare_all f (tokens_from true (c.args.at + 1) (drop (c.args.at + 1) (take c.args.stop c.args.file.now))) ≡ read_declarations f (line_at (take c.args.stop c.args.file.now) c.args.at next)) = λ heads bodies next. let a = c.spaces in
    let b = scan_bounds (is_of Space) (take c.args.stop c.args.file.now) (c.args.at + 1) a.result (omega (arith, cut)) a.ensures in
    let l : a.result < length (take c.args.stop c.args.file.now) = omega (arith, b.1, cut) in
    declarations_read ((stored_file c.args.file.now (store_of c.args.variables.now heads bodies) c.args.p)) (take c.args.stop c.args.file.now) c.args.at next (header heads bodies) _ _ (tokens_turn (take c.args.stop c.args.file.now) (c.args.at + 1) a.result a.ensures l _ refl) in
    let d = c.in_err-n.ensures in
    rw (exit c.from_residual.result c.in_err-n.field-0.0 c.from_residual.ensures)
    (λ heads bodies next. d.0 (stored_file c.args.file.now (store_of c.args.variables.now heads bodies) c.args.p) refl ∙ read heads bodies next, d.1, tt, tt)

pub returns : goal.returns
returns c =
    let cut : (length (take c.args.stop c.args.file.now) ≡ c.args.stop) = length-take-le c.args.stop c.args.file.now c.requires.1 in
    let header : ((heads bodies : List ℕ) → in_header ((stored_file c.args.file.now (store_of c.args.variables.now heads bodies) c.args.p)) ≡ true) = λ heads bodies. in_header_lem _ _ c.args.p ∙ eq-eqb _ 0 c.if-m-ne0.false in
    let read : ((heads bodies : List ℕ) (next : ℕ) → let f = (stored_file c.args.file.now (store_of c.args.variables.now heads bodies) c.args.p) in declare_all f (tokens_from true (c.args.at + 1) (drop (c.args.at + 1) (take c.args.stop c.args.file.now))) ≡ read_declarations f (line_at (take c.args.stop c.args.file.now) c.args.at next)) = λ heads bodies next. let a = c.spaces in
    let b = scan_bounds (is_of Space) (take c.args.stop c.args.file.now) (c.args.at + 1) a.result (omega (arith, cut)) a.ensures in
    let l : a.result < length (take c.args.stop c.args.file.now) = omega (arith, b.1, cut) in
    declarations_read ((stored_file c.args.file.now (store_of c.args.variables.now heads bodies) c.args.p)) (take c.args.stop c.args.file.now) c.args.at next (header heads bodies) _ _ (tokens_turn (take c.args.stop c.args.file.now) (c.args.at + 1) a.result a.ensures l _ refl) in
    let d = c.in_ok-n.ensures in
    (λ heads bodies next. d.0 (stored_file c.args.file.now (store_of c.args.variables.now heads bodies) c.args.p) refl ∙ read heads bodies next, d.1, (d.2.0, c.if-m-ne0.false), d.2.1)
