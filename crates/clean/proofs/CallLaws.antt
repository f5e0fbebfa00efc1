-- The cleaning call, by what its steps answer. Assumes nothing.
use Prim.Native.Nat.{ℕ}
use mathlib.Core.Path.{◌≡◌}
use mathlib.Core.List.{List}
use lib.ListN.{length}
use Rattle.refusal.specs.declared.Refusal.{Refusal}
use Rattle.refusal.specs.Result.{Ok, Err}
use Rattle.constraint.specs.File.{File}
use Rattle.constraint.specs.Read.{read_file}
use Rattle.printing.specs.Output.{WriteOutcome, room_for, written}
use Rattle.clean_text.specs.Text.{clean_text}
use Rattle.clean.specs.Clean.{cleaning, clean_outcome}

module _ (constraint output : List ℕ) where
  pub cleaning_refused : (r : Refusal) → Err r ≡ read_file constraint → ◌≡◌ {A = WriteOutcome} (record { reply = Err r; output = output }) (clean_outcome constraint output)
  unfolding cleaning
  cleaning_refused r e = rw (← e)

  pub cleaning_text : (f : File) → Ok f ≡ read_file constraint → written output (room_for (clean_text f) (length output)) ≡ clean_outcome constraint output
  unfolding cleaning
  cleaning_text f e = rw (← e)
