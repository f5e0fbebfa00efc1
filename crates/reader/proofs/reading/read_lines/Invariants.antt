use Prim.Native.Nat.{◌-◌}
use lib.ListN.{length}
use Rattle.refusal.specs.declared.Subject.TheVariants.{Constraint}
use Rattle.text.proofs.ReadingLaws.{Reading}
use Rattle.constraint.specs.File.{empty_file}
use Rattle.constraint.specs.Read.{read_line}
use Rattle.store.specs.Names.{Searchable}
use Rattle.store.specs.Tables.{store_of, StoreSized}
use Rattle.store.specs.Progress.{stored_file, HeadsInUseFit, InTables}
use Rattle.reader.proofs.reading.read_lines.Given as goal

abbrev pub invariant-loop-i : goal.invariant-loop-i
invariant-loop-i l = Reading Constraint read_line empty_file l.file (stored_file l.file (store_of l.variables l.heads l.bodies) l.p) l.i × StoreSized (store_of l.variables l.heads l.bodies) × InTables l.p × Searchable l.file l.variables l.p.variables × HeadsInUseFit l.file (store_of l.variables l.heads l.bodies) l.p

abbrev pub decreases-loop-i : goal.decreases-loop-i
decreases-loop-i l = length l.file - l.i
