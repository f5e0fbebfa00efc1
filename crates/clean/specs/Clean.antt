-- What the cleaning call answers, and what it leaves in the output room.
use Rattle.std.specs.Prelude.{ℕ, List, length}
use Rattle.refusal.specs.Result.{Reply, ◌>>=◌}
use Rattle.constraint.specs.Read.{read_file}
use Rattle.printing.specs.Output.{WriteOutcome, room_for, written}
use Rattle.clean_text.specs.Text.{clean_text}

-- the text that is written: "Refusals: those of the file, then 21 for the output"
unfoldable pub cleaning : List ℕ → List ℕ → Reply (List ℕ)
cleaning constraint output = read_file constraint >>= λ f. room_for (clean_text f) (length output)

-- CLEAN: the contract of the call
abbrev pub clean_outcome : List ℕ → List ℕ → WriteOutcome
clean_outcome constraint output = written output (cleaning constraint output)
