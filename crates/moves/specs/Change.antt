-- What a change answers, and what it leaves in the tables.
use Rattle.std.specs.Prelude.{ℕ, List}
use Rattle.refusal.specs.Result.{Reply, Ok, Err}
use Rattle.constraint.specs.File.{File}
use Rattle.constraint.specs.Read.{read_file}
use Rattle.judge.specs.InUse.{Tables, in_use, put_in_use}
use Rattle.moves.specs.declared.Effect.{Effect}
use Rattle.moves.specs.Step.{step, effect}
use Rattle.moves.specs.Gate.{Call, admitted}

-- the reply and the tables at exit
pub record Outcome : Type 0 where
  pub reply : Reply Effect
  pub tables : Tables

-- an accepted change is made on the entries in use
unfoldable pub made : File → Tables → Call → Outcome
made f t c =
    let old = in_use f t in
    let new = step f c.index c.change old in
    record { reply = Ok (effect f c.index c.change old new); tables = put_in_use f new t }

-- a refused one changes nothing
abbrev pub changed : File → Tables → Call → Reply (Unit {0}) → Outcome
changed f t c (Ok passed) = made f t c
changed f t c (Err r) = record { reply = Err r; tables = t }

-- a change on a file that is read
abbrev pub change_for : File → Tables → Call → Outcome
change_for f t c = changed f t c (admitted f t c)

-- the constraint file's refusals come first
abbrev pub change_by : Reply File → Tables → Call → Outcome
change_by (Ok f) t c = change_for f t c
change_by (Err r) t c = record { reply = Err r; tables = t }

-- CHANGE, with and without an index: the contract of the calls
abbrev pub change_outcome : List ℕ → Tables → Call → Outcome
change_outcome constraint t c = change_by (read_file constraint) t c
