-- A file as lines, and a line as tokens, with their positions.
use Rattle.std.specs.Prelude.{ℕ, ◌+◌, Bool, true, false, cond, not, ◌&&◌, List, [], ◌∷◌, eqb, length, get_or, drop}
use Rattle.text.specs.Bytes.{front_of, is_space, is_line_feed, is_carriage_return}

-- a line: where its content starts, its content, and where the next line starts (behind the last line, the end of the file)
pub record TextLine : Type 0 where
  pub start : ℕ
  pub bytes : List ℕ
  pub next : ℕ

-- where its content ends: "The position of a line's end is the CR's", if it has one
abbrev pub line_end : TextLine → ℕ
line_end l = l.start + length l.bytes

-- the length of the terminator that the bytes s begin with, 0 for none: "Lines end at LF", and "One CR directly before an LF now belongs to the line's end"
unfoldable pub terminator_length : List ℕ → ℕ
terminator_length s = cond (is_line_feed (get_or s 0 0)) 1 (cond (is_carriage_return (get_or s 0 0) && is_line_feed (get_or s 1 0)) 2 0)

-- the content of the line that begins with the first of the bytes s: up to a terminator, "or .. the end of the file"
unfoldable pub content_of : List ℕ → List ℕ
content_of [] = []
content_of (b ∷ s) = let more = b ∷ content_of s in cond (eqb (terminator_length (b ∷ s)) 0) more []

-- the length of that line, with its terminator
unfoldable pub line_length : List ℕ → ℕ
line_length s = let n = length (content_of s) in n + terminator_length (drop n s)

-- that line; its first byte stands at `at`
unfoldable pub line_of : ℕ → List ℕ → TextLine
line_of at s = record { start = at; bytes = content_of s; next = at + line_length s }

-- the lines that begin in the bytes s, which stand at `at`: one at the first byte, if `begins` says so, and one behind each LF
unfoldable pub lines_from : Bool → ℕ → List ℕ → List TextLine
lines_from begins at [] = []
lines_from begins at (b ∷ s) = let rest = lines_from (is_line_feed b) (at + 1) s in cond begins (line_of at (b ∷ s) ∷ rest) rest

-- the lines of a file
abbrev pub text_lines : List ℕ → List TextLine
text_lines = lines_from true 0

-- a token: where it starts, and its bytes
pub record Token : Type 0 where
  pub start : ℕ
  pub bytes : List ℕ

-- the token that begins with the first of the bytes s: the longest run without white space
unfoldable pub token_of : ℕ → List ℕ → Token
token_of at s = record { start = at; bytes = front_of (λ b. not (is_space b)) s }

-- the tokens that begin in the bytes s, which stand at `at`: one at the first byte, if `begins` says so, and one behind white space, but none at white space
unfoldable pub tokens_from : Bool → ℕ → List ℕ → List Token
tokens_from begins at [] = []
tokens_from begins at (b ∷ s) = let rest = tokens_from (is_space b) (at + 1) s in cond (begins && not (is_space b)) (token_of at (b ∷ s) ∷ rest) rest

-- the tokens behind a line's first byte
abbrev pub arguments : TextLine → List Token
arguments l = tokens_from true (l.start + 1) (drop 1 l.bytes)

-- whether a line starts, at its first byte, with the letter b, "then white space or the line's end"
unfoldable pub leads : ℕ → List ℕ → Bool
leads b [] = false
leads b (c ∷ []) = eqb b c
leads b (c ∷ d ∷ s) = eqb b c && is_space d
