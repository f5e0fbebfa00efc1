-- What is claimed of clean texts.
use Rattle.std.specs.Prelude.{ℕ, ◌≤◌, ◌≡◌, List, length}
use Rattle.refusal.specs.Result.{Ok}
use Rattle.constraint.specs.File.{File}
use Rattle.constraint.specs.Read.{read_file}
use Rattle.clean_text.specs.Text.{clean_text}

-- the clean text of an accepted file reads to the very file that it was made from
abbrev pub TextReadsBack : Type 0
TextReadsBack = (bytes : List ℕ) (f : File) → read_file bytes ≡ Ok f → read_file (clean_text f) ≡ Ok f

-- it is no longer than the bytes that the file was read from
abbrev pub TextNeverLonger : Type 0
TextNeverLonger = (bytes : List ℕ) (f : File) → read_file bytes ≡ Ok f → length (clean_text f) ≤ length bytes
