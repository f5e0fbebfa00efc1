use Prim.Native.Nat.{◌≤◌}
use mathlib.Core.Path.{◌≡◌, sym, ◌∙◌}
use native.Mathlib.Omega.{arith}
use lib.ListN.{length}
use borrow.Author.Rules.{rules}
use Rattle.refusal.specs.Result.{Ok}
use Rattle.constraint.specs.File.{File}
use Rattle.constraint.specs.Read.{read_file}
use Rattle.constraint.proofs.SoundLaws.{read_short}
use Rattle.store.specs.Tables.{store_of}
use Rattle.store.specs.Progress.{stored_file, InTables}
use Rattle.store.proofs.ExitLaws.{exit}
use Rattle.store.proofs.SearchLaws.{searchable_none}
use Rattle.printing.proofs.PlaceLaws.{front_length}
use Rattle.printing.proofs.OutputLaws.{text_written}
use Rattle.clean_text.specs.Text.{clean_text}
use Rattle.clean_text.proofs.NeverLonger.{text_never_longer}
use Rattle.clean.specs.Widths.{ShortWidths}
use Rattle.clean.proofs.WidthLaws.{widths_short}
use Rattle.clean.proofs.CallLaws.{cleaning_refused, cleaning_text}
use Rattle.clean.proofs.clean.Goals as goal
use Rattle.clean.proofs.clean.Goals.{In_ok-p}

pub read-requires : goal.read-requires
read-requires c = (search rules, searchable_none _)

pub returns-in_err-p : goal.returns-in_err-p
returns-in_err-p c =
    rw (exit c.from_residual.result c.in_err-p.field-0.0 c.from_residual.ensures) (cleaning_refused _ _ _ c.in_err-p.ensures.0)

-- the file in the tables, and what is known of it
abbrev file : In_ok-p → File
file c = stored_file c.args.constraint.now (store_of c.read.new.variables c.read.new.heads c.read.new.bodies) c.in_ok-p.p

file_read : (c : In_ok-p) → Ok (file c) ≡ read_file c.args.constraint.now
file_read c = c.in_ok-p.ensures.0

in_tables : (c : In_ok-p) → InTables c.in_ok-p.p
in_tables c = c.in_ok-p.ensures.2

short : (c : In_ok-p) → ShortWidths (store_of c.read.new.variables c.read.new.heads c.read.new.bodies) c.in_ok-p.p
short c = widths_short c.args.constraint.now _ c.in_ok-p.p (file_read c) c.in_ok-p.ensures.3

never_longer : (c : In_ok-p) → length (clean_text (file c)) ≤ length c.args.constraint.now
never_longer c = text_never_longer c.args.constraint.now (file c) (sym (file_read c))

pub put_clean-length-requires : goal.put_clean-length-requires
put_clean-length-requires c = let p = (goal.at.put_clean-length-requires c).In_ok-p in
    (c.read.ensures.1, in_tables p, short p, omega (arith, never_longer p, c.if-constraint-output.true))

pub returns-then-constraint-output : goal.returns-then-constraint-output
returns-then-constraint-output c =
    let p = (goal.at.returns-then-constraint-output c).In_ok-p in
    let put = c.put_clean-length.ensures in
    text_written (clean_text (file p)) _ (front_length put) (omega (arith, front_length put, never_longer p, c.if-constraint-output.true)) put ∙ cleaning_text c.args.constraint.now _ (file p) (file_read p)

pub clean_short-requires : goal.clean_short-requires
clean_short-requires c = let p = (goal.at.clean_short-requires c).In_ok-p in
    (c.read.ensures.1, in_tables p, short p, omega (arith, never_longer p, read_short c.args.constraint.now (file p) (sym (file_read p))))

pub returns : goal.returns
returns c = let p = (goal.at.returns c).In_ok-p in
    c.clean_short.ensures ∙ cleaning_text c.args.constraint.now _ (file p) (file_read p)
