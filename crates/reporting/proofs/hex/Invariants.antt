-- The digits that are left, read behind those of the value, make the number of them all.
use Rattle.std.proofs.Common.{◌≡◌, ◌-◌, take, drop}
use Rattle.reporting.specs.Hex.{hex_after}
use Rattle.reporting.proofs.hex.Given as goal

abbrev pub invariant-loop-i : goal.invariant-loop-i
invariant-loop-i l = hex_after l.value (take (l.end - l.i) (drop l.i l.text)) ≡ hex_after 0 (take (l.end - l.at) (drop l.at l.text))
