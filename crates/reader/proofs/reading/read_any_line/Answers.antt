use Prim.Native.Nat.{◌≤◌}
use mathlib.Core.Path.{◌≡◌, sym, ◌∙◌}
use native.Mathlib.Omega.{arith}
use lib.ListN.{length, take}
use lib.Seq.{length-take-le}
use Rattle.refusal.specs.declared.Subject.TheVariants.{Constraint}
use Rattle.text.proofs.LineLaws.{not_at_end}
use Rattle.text.proofs.ReadingLaws.{fine_blank, fine_line}
use Rattle.store.specs.Tables.{store_of}
use Rattle.store.specs.Progress.{stored_file}
use Rattle.constraint.specs.Read.{read_line}
use Rattle.reader.proofs.reading.read_any_line.Goals as goal

pub slice_bounds-all-end : goal.slice_bounds-all-end
slice_bounds-all-end c =
    let long : (length (take c.args.stop c.args.file.now) ≡ c.args.stop) = length-take-le c.args.stop c.args.file.now c.requires.1 in
    sym long

pub all-requires : goal.all-requires
all-requires c =
    let long : (length (take c.args.stop c.args.file.now) ≡ c.args.stop) = length-take-le c.args.stop c.args.file.now c.requires.1 in
    let starts-in : (c.args.at ≤ length (take c.args.stop c.args.file.now)) = omega (arith, long, c.requires.0) in
    starts-in

pub returns-then-all : goal.returns-then-all
returns-then-all c = (λ next. fine_blank Constraint read_line (stored_file c.args.file.now (store_of c.args.variables.now c.args.heads.now c.args.bodies.now) c.args.p) (take c.args.stop c.args.file.now) c.args.at next c.requires.6 (sym c.all.ensures ∙ c.if-all.true), c.requires.4, c.requires.5, tt, λ f. f)

pub read_line-requires : goal.read_line-requires
read_line-requires c =
    let long : (length (take c.args.stop c.args.file.now) ≡ c.args.stop) = length-take-le c.args.stop c.args.file.now c.requires.1 in
    (omega (arith, long, not_at_end (take c.args.stop c.args.file.now) c.args.at (sym c.all.ensures ∙ c.if-all.false)), c.requires.1, c.requires.2, c.requires.3, c.requires.4, c.requires.5)

pub returns : goal.returns
returns c = (λ next. c.read_line.ensures.0 next ∙ fine_line Constraint read_line (stored_file c.args.file.now (store_of c.args.variables.now c.args.heads.now c.args.bodies.now) c.args.p) (take c.args.stop c.args.file.now) c.args.at next c.requires.6 (sym c.all.ensures ∙ c.if-all.false), c.read_line.ensures.1, c.read_line.ensures.2, c.read_line.ensures.3, c.read_line.ensures.4)
