use Prim.Native.Nat.{◌-◌}
use Rattle.store.specs.Tables.{variables_in}
use Rattle.statement.proofs.OperandLaws.{ReadUpTo}
use Rattle.statement.proofs.operations.statement_line.Given as goal

-- `statement_line` meets its contract. The loop's invariant: what is left to read of the line is what was left at first.
abbrev pub invariant-loop-slot : goal.invariant-loop-slot
invariant-loop-slot l = ReadUpTo l.line (variables_in l.file l.variables l.n) l.at l.m l.initial.p l.initial.slot l.initial.heads l.initial.bodies l.heads l.bodies l.p l.slot

abbrev pub decreases-loop-slot : goal.decreases-loop-slot
decreases-loop-slot l = 4 - l.slot
