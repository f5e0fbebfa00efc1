use mathlib.Core.Path.{sym, ap, ◌∙◌}
use native.Mathlib.Omega.{arith}
use lib.ListN.{length}
use Rattle.refusal.specs.Result.{Err}
use Rattle.store.specs.Tables.{store_of}
use Rattle.store.specs.Progress.{stored_file}
use Rattle.printing.proofs.PlaceLaws.{front_length, front_is}
use Rattle.printing.proofs.OutputLaws.{text_refused, text_written}
use Rattle.clean_text.specs.Text.{clean_text}
use Rattle.clean.proofs.clean_short.Goals as goal

pub returns-then-output-length : goal.returns-then-output-length
returns-then-output-length c = text_refused (let a = c.args in clean_text (stored_file a.file.now (store_of a.variables.now a.heads.now a.bodies.now) a.p)) _ (front_length c.put_clean-length.ensures) c.if-output-length.true (ap Err c.of.ensures)

pub slice_bounds-put_bytes-end : goal.slice_bounds-put_bytes-end
slice_bounds-put_bytes-end c = let p = c.put_clean-length.ensures in front_length p ∙ ap length (sym (front_is p))

pub put_bytes-requires : goal.put_bytes-requires
put_bytes-requires c = let p = c.put_clean-length.ensures in rw (front_is p) (omega (arith, front_length p))

pub returns : goal.returns
returns c = let p = c.put_clean-length.ensures in text_written (let a = c.args in clean_text (stored_file a.file.now (store_of a.variables.now a.heads.now a.bodies.now) a.p)) _ (front_length p) c.if-output-length.false (rw (front_is p) at c.put_bytes.ensures)
