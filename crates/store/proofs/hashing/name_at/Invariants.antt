use Prim.Native.Nat.{◌-◌, ◌≤◌}
use mathlib.Core.Path.{◌≡◌}
use lib.ListN.{length, drop}
use Rattle.text.specs.Bytes.{front_of}
use Rattle.text.specs.declared.Class.TheVariants.{NameByte}
use Rattle.text.specs.Scan.{is_of, past}
use Rattle.store.specs.Hash.{hash_after, hash_of}
use Rattle.store.proofs.hashing.name_at.Given as goal

-- `name_at` meets its contract. The loop's invariant: the run of bytes of a name that is left ends where the whole one does,
-- and its bytes behind the hash so far give the whole one's hash.
abbrev pub invariant-loop-i : goal.invariant-loop-i
invariant-loop-i l = (l.i ≤ length l.text) × (past (is_of NameByte) l.text l.i ≡ past (is_of NameByte) l.text l.at) × (hash_after l.hash (front_of (is_of NameByte) (drop l.i l.text)) ≡ hash_of (front_of (is_of NameByte) (drop l.at l.text)))

abbrev pub decreases-loop-i : goal.decreases-loop-i
decreases-loop-i l = length l.text - l.i
