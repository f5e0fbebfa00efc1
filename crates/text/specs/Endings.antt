-- What is claimed of files that end their lines with CR LF, of files without CR, and of the readers of both.
use Rattle.std.specs.Prelude.{ℕ, suc, ◌+◌, ◌≤◌, ◌≡◌, ◌↔◌, Bool, true, cond, not, List, [], ◌∷◌, map, length, get_or, take}
use Prim.Native.Char.{code}
use Rattle.edition.specs.Edition.{max_file_bytes}
use Rattle.refusal.specs.Lists.{every}
use Rattle.refusal.specs.Result.{Reply, Ok}
use Rattle.text.specs.Bytes.{front_of, is_line_feed, is_carriage_return}
use Rattle.text.specs.Lines.{TextLine, text_lines}

-- a text has no CR
abbrev pub NoReturn : List ℕ → Type 0
NoReturn bytes = every (λ b. not (is_carriage_return b)) bytes ≡ true

-- the text with a CR put in front of every LF
unfoldable pub with_returns : List ℕ → List ℕ
with_returns [] = []
with_returns (b ∷ s) = cond (is_line_feed b) (code "\r" ∷ b ∷ with_returns s) (b ∷ with_returns s)

-- the contents of a file's lines
abbrev pub contents : List ℕ → List (List ℕ)
contents bytes = map (λ l. l.bytes) (text_lines bytes)

-- a line, and the lines of a file, that end at LF alone or at the end of the file
unfoldable pub feed_line_of : ℕ → List ℕ → TextLine
feed_line_of at s = let bytes = front_of (λ b. not (is_line_feed b)) s in record { start = at; bytes = bytes; next = at + length (take (suc (length bytes)) s) }

unfoldable pub feed_lines_from : Bool → ℕ → List ℕ → List TextLine
feed_lines_from begins at [] = []
feed_lines_from begins at (b ∷ s) = let rest = feed_lines_from (is_line_feed b) (at + 1) s in cond begins (feed_line_of at (b ∷ s) ∷ rest) rest

-- a file without CR has just these lines
abbrev pub FeedsEndLines : Type 0
FeedsEndLines = (bytes : List ℕ) → NoReturn bytes → text_lines bytes ≡ feed_lines_from true 0 bytes

-- a CR put in front of every LF of it changes no content
abbrev pub ReturnsKeepContents : Type 0
ReturnsKeepContents = (bytes : List ℕ) → NoReturn bytes → contents bytes ≡ contents (with_returns bytes)

-- what a reader accepts, it takes for the same as any file, not too long, whose lines have the same contents, however they end
abbrev pub ContentsDecide : {A : Type 0} → (List ℕ → Reply A) → Type 0
ContentsDecide {A} read = (a b : List ℕ) (x : A) → contents a ≡ contents b → length b ≤ max_file_bytes → read a ≡ Ok x → read b ≡ Ok x

-- so a file without CR is taken for the same as with a CR put in front of every LF, unless that makes it too long
abbrev pub ReturnsChangeNothing : {A : Type 0} → (List ℕ → Reply A) → Type 0
ReturnsChangeNothing {A} read = (bytes : List ℕ) (x : A) → NoReturn bytes → length (with_returns bytes) ≤ max_file_bytes → (read bytes ≡ Ok x) ↔ (read (with_returns bytes) ≡ Ok x)

-- "any other CR stays refused": in a file that a reader accepts, LF stands directly behind each CR
abbrev pub NoOtherReturn : {A : Type 0} → (List ℕ → Reply A) → Type 0
NoOtherReturn {A} read = (bytes : List ℕ) (x : A) → read bytes ≡ Ok x → (i : ℕ) → is_carriage_return (get_or bytes i 0) ≡ true → is_line_feed (get_or bytes (suc i) 0) ≡ true
