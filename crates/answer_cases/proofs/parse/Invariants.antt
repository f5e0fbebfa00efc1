use Rattle.std.proofs.Common.{length, ◌≤◌}
use Rattle.answer_cases.proofs.parse.Given as goal

abbrev pub invariant-loop-entry : goal.invariant-loop-entry
invariant-loop-entry l = l.at ≤ length l.digits
