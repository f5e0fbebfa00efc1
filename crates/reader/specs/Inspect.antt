-- The call that reads and types any bytes.
use Rattle.std.specs.Prelude.{ℕ, List, length}
use Rattle.refusal.specs.Result.{Reply, accepted_as}
use Rattle.reader.specs.declared.Counts.{Counts}
use Rattle.constraint.specs.File.{File}
use Rattle.constraint.specs.Read.{read_file}

-- how many variables and lines a file has
abbrev pub counts_of : File → Counts
counts_of f = record { variables = length f.variables; lines = length f.lines }

-- INSPECT: the contract of the call
abbrev pub inspect_outcome : List ℕ → Reply Counts
inspect_outcome bytes = accepted_as counts_of (read_file bytes)
