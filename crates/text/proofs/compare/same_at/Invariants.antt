use Prim.Native.Nat.{◌+◌, ◌-◌, ◌≤◌}
use mathlib.Core.Path.{◌≡◌}
use lib.ListN.{length, take, drop}
use Rattle.text.specs.Bytes.{same}
use Rattle.text.proofs.NameLaws.{same_from}
use Rattle.text.proofs.compare.same_at.Given as goal

-- `same_at` meets its contract. The loop's invariant: the comparison of what is left says what the whole one does.
abbrev pub invariant-loop-i : goal.invariant-loop-i
invariant-loop-i l = (l.i ≤ l.len) × (l.at + l.len ≡ length l.text) × (same_from l.file l.text l.start l.len l.at l.i ≡ same (take l.len (drop l.start l.file)) (drop l.at l.text))

abbrev pub decreases-loop-i : goal.decreases-loop-i
decreases-loop-i l = l.len - l.i
