use Prim.Native.Nat.{◌-◌}
use mathlib.Core.Bool.{false}
use mathlib.Core.Path.{◌≡◌}
use lib.ListN.{length, take}
use Rattle.edition.specs.Edition.{max_variables}
use Rattle.refusal.specs.declared.Subject.TheVariants.{Answer}
use Rattle.text.proofs.ReadingLaws.{Reading}
use Rattle.store.specs.Tables.{variables_in}
use Rattle.answer.specs.Read.{settings_of, read_answer_line}
use Rattle.answer.proofs.reading.read_lines.Given as goal

abbrev pub invariant-loop-i : goal.invariant-loop-i
invariant-loop-i l = Reading Answer (read_answer_line (variables_in l.file l.variables l.n)) (settings_of false (take l.n l.initial.settings)) l.answer (settings_of l.solved (take l.n l.settings)) l.i × (length l.settings ≡ max_variables)

abbrev pub decreases-loop-i : goal.decreases-loop-i
decreases-loop-i l = length l.answer - l.i
