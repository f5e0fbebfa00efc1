-- What a writer's call leaves, with and without room for its text. Assumes nothing.
use mathlib.Core.Path.{◌≡◌}
use mathlib.Core.List.{List}
use Prim.Native.Nat.{ℕ, ◌≤◌, ◌<◌}
use lib.ListN.{length}
use borrow.Author.Tests.{le-leb, lt-leb}
use Rattle.refusal.specs.declared.Subject.TheVariants.{Output}
use Rattle.refusal.specs.declared.Fault.TheVariants.{TooShort}
use Rattle.refusal.specs.Result.{Reply, Ok, Err, refusal}
use Rattle.printing.specs.Room.{Put}
use Rattle.printing.specs.Output.{WriteOutcome, room_for, written}
use Rattle.printing.proofs.PlaceLaws.{placed_front}

-- the text's length is known
module _ (text output : List ℕ) {len : ℕ} (l : len ≡ length text) where
  pub text_refused : {r : Reply ℕ} → length output < len → r ≡ Err (refusal Output TooShort 0)
      → ◌≡◌ {A = WriteOutcome} (record { reply = r; output = output }) (written output (room_for text (length output)))
  text_refused h e = rw (e, lt-leb (length text) (length output) (rw l at h))

  pub text_written : {end : ℕ} {output' : List ℕ} → len ≤ length output → Put text output 0 end output'
      → ◌≡◌ {A = WriteOutcome} (record { reply = Ok len; output = output' }) (written output (room_for text (length output)))
  text_written h p = rw (le-leb (length text) (length output) (rw l at h), l, p.holds, placed_front text output)
