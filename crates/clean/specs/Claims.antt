-- What is claimed of the cleaning call.
use Rattle.std.specs.Prelude.{ℕ, ◌≤◌, ◌≡◌, ◌↔◌, List, ◌++◌, length, drop}
use Rattle.refusal.specs.Result.{Ok}
use Rattle.constraint.specs.File.{File}
use Rattle.constraint.specs.Read.{read_file}
use Rattle.judge.specs.InUse.{Tables}
use Rattle.tables.specs.Check.{check_outcome}
use Rattle.clean.specs.Clean.{clean_outcome}

-- a file cleans to a text: in some room the call answers the text's length, and leaves the text in front of what was behind it
pub record Cleans (constraint text : List ℕ) : Type 0 where
  pub room : List ℕ
  pub outcome : clean_outcome constraint room ≡ record { reply = Ok (length text); output = text ++ drop (length text) room }

-- "It is accepted", and reads to the very file that the constraint file reads to
abbrev pub ReadsBack : Type 0
ReadsBack = (constraint text : List ℕ) → Cleans constraint text → (f : File) × (read_file constraint ≡ Ok f) × (read_file text ≡ Ok f)

-- it "has the same verdicts under every assignment": the check answers, and leaves, the same for every answer and any tables
abbrev pub SameVerdicts : Type 0
SameVerdicts =
    (constraint text : List ℕ)
    → Cleans constraint text
    → (answer : List ℕ) (t : Tables)
    → check_outcome text answer t ≡ check_outcome constraint answer t

-- "cleaning it again changes nothing": the call answers, and leaves, the same for the text as for the file, in any room
abbrev pub CleanAgain : Type 0
CleanAgain = (constraint text : List ℕ) → Cleans constraint text → (output : List ℕ) → clean_outcome text output ≡ clean_outcome constraint output

-- "The result is never longer than the file"
abbrev pub NeverLonger : Type 0
NeverLonger = (constraint text : List ℕ) → Cleans constraint text → length text ≤ length constraint

-- so an accepted file is cleaned in any room that is as long as it is
abbrev pub RoomOfTheFile : Type 0
RoomOfTheFile =
    (constraint output : List ℕ) (f : File)
    → read_file constraint ≡ Ok f
    → length constraint ≤ length output
    → (n : ℕ) × ((clean_outcome constraint output).reply ≡ Ok n)

-- two files say the same: "`e`, the variables with widths in order, and the lines with constants reduced are the same"
pub record SameMap (f g : File) : Type 0 where
  pub expectation : f.expectation ≡ g.expectation
  pub variables : f.variables ≡ g.variables
  pub lines : f.lines ≡ g.lines

-- "Two files clean to equal bytes exactly when" they say the same
abbrev pub EqualExactly : Type 0
EqualExactly =
    (constraint text constraint' text' : List ℕ) (f g : File)
    → Cleans constraint text
    → Cleans constraint' text'
    → read_file constraint ≡ Ok f
    → read_file constraint' ≡ Ok g
    → (text ≡ text') ↔ SameMap f g
