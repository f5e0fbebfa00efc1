use Prim.Native.Nat.{◌-◌}
use Rattle.declaration.proofs.DeclareLaws.{Declaring}
use Rattle.declaration.proofs.declarations.declare_all.Given as goal

-- `declare_all` meets its contract. The loop's invariant: what is left to declare, from what is held, is what there was to declare.
abbrev pub invariant-loop-i : goal.invariant-loop-i
invariant-loop-i l = Declaring l.file l.stop l.at l.initial.variables l.n l.variables l.k l.i

abbrev pub decreases-loop-i : goal.decreases-loop-i
decreases-loop-i l = l.stop - l.i
