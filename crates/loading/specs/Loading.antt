-- A file in its room.
use Rattle.std.specs.Prelude.{ℕ, ◌+◌, ◌<◌, ◌≤◌, ◌≡◌, List, length, take}
use Rattle.edition.specs.Edition.{max_file_bytes}

-- room for a file, and for one byte more, so that one that is too long is seen to be
abbrev pub file_room : ℕ
file_room = max_file_bytes + 1

-- the first n bytes of the room are as many: the second part follows from the first
abbrev pub IsPrefixLen : ℕ → List ℕ → Type 0
IsPrefixLen n room = (n ≤ length room) × (n ≡ length (take n room))

-- of a file n bytes were read: if they fill the room, it is over the limit
pub record Seen (n : ℕ) (room : List ℕ) : Type 0 where
  pub whole : length room ≡ file_room
  pub over : n ≡ length room → max_file_bytes < n
