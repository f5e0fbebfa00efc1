-- Texts put into a room, piece by piece.
use Rattle.std.specs.Prelude.{ℕ, ◌+◌, ◌≡◌, List, ◌++◌, length, take, drop}

-- the room with a text from a place on
unfoldable pub placed : List ℕ → ℕ → List ℕ → List ℕ
placed room at text = take at room ++ text ++ drop (at + length text) room

-- a text was put into the room at a place: where it ends, and the room then
pub record Put (text room : List ℕ) (at end : ℕ) (room' : List ℕ) : Type 0 where
  pub ends : end ≡ at + length text
  pub holds : room' ≡ placed room at text
