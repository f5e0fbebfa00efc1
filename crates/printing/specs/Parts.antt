-- Parts of a file.
use Rattle.std.specs.Prelude.{ℕ, ◌≤◌, ◌≡◌, List, length, take, drop}
use Rattle.text.specs.declared.Span.{Span}

-- a part of the file, from its start to its stop
pub record Part (file text : List ℕ) (part : Span) : Type 0 where
  pub forward : part.start ≤ part.stop
  pub within : part.stop ≤ length file
  pub bytes : drop part.start (take part.stop file) ≡ text
