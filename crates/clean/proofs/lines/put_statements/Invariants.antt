use Prim.Native.Nat.{◌-◌}
use Rattle.edition.specs.Edition.{edition10}
use Rattle.store.specs.Tables.{variables_in}
use Rattle.printing.proofs.RowLaws.{Putting}
use Rattle.clean.proofs.LineLaws.{statement_at}
use Rattle.clean.proofs.lines.put_statements.Given as goal

abbrev pub invariant-loop-k : goal.invariant-loop-k
invariant-loop-k l = Putting (statement_at edition10 (variables_in l.file l.variables l.n) l.heads l.bodies) l.m l.initial.room l.at l.room l.k l.end

abbrev pub decreases-loop-k : goal.decreases-loop-k
decreases-loop-k l = l.m - l.k
