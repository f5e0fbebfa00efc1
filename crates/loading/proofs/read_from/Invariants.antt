use Rattle.std.proofs.Common.{length, ◌-◌, ◌≤◌}
use Rattle.loading.proofs.read_from.Given as goal

-- as many bytes stand in the room as it has room for
abbrev pub invariant-loop-done : goal.invariant-loop-done
invariant-loop-done l = l.done ≤ length l.room

abbrev pub decreases-loop-done : goal.decreases-loop-done
decreases-loop-done l = length l.initial.room - l.done
