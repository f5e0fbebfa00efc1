-- Bytes.
use Rattle.std.specs.Prelude.{ℕ, Bool, true, false, cond, ◌&&◌, ◌||◌, List, [], ◌∷◌, eqb, leb}
use Prim.Native.Char.{code}

-- whether two texts are the same bytes
unfoldable pub same : List ℕ → List ℕ → Bool
same [] [] = true
same [] (b ∷ t) = false
same (a ∷ s) [] = false
same (a ∷ s) (b ∷ t) = eqb a b && same s t

-- the longest front of s whose bytes all pass the test
unfoldable pub front_of : (ℕ → Bool) → List ℕ → List ℕ
front_of test [] = []
front_of test (b ∷ s) = let more = b ∷ front_of test s in cond (test b) more []

-- from a to z, both included
abbrev pub between : ℕ → ℕ → ℕ → Bool
between a z b = leb a b && leb b z

-- "White space is spaces and tabs"
unfoldable pub is_space : ℕ → Bool
is_space b = eqb b (code " ") || eqb b (code "\t")

-- LF, and CR
unfoldable pub is_line_feed : ℕ → Bool
is_line_feed b = eqb b (code "\n")

unfoldable pub is_carriage_return : ℕ → Bool
is_carriage_return b = eqb b (code "\r")

-- the printing bytes, with the space
abbrev pub is_printing : ℕ → Bool
is_printing = between 32 126

-- the bytes allowed in a line: "tab, LF, 32 to 126", of which LF ends it; "any other CR stays refused 2"
unfoldable pub is_allowed : ℕ → Bool
is_allowed b = eqb b (code "\t") || is_printing b

-- digits and letters
unfoldable pub is_digit : ℕ → Bool
is_digit = between (code "0") (code "9")

unfoldable pub is_letter : ℕ → Bool
is_letter b = between (code "a") (code "z") b || between (code "A") (code "Z") b

-- the bytes of a name behind its first: "letters, digits, underscores"
unfoldable pub is_name_byte : ℕ → Bool
is_name_byte b = is_letter b || is_digit b || eqb b (code "_")
