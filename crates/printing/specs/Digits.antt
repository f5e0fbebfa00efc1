-- Numbers in decimal.
use Rattle.std.specs.Prelude.{ℕ, zero, suc, ◌+◌, ◌/◌, ◌%◌, cond, List, [], ◌∷◌, ◌++◌, ltb}
use Prim.Native.Char.{code}
use Rattle.text.specs.Spelling.{max_digits}

-- the digit of a number below ten
abbrev pub digit : ℕ → ℕ
digit d = code "0" + d

-- a number in decimal, of n digits at most: its digits without the last, then the last. "no leading zero, most significant digit first; zero is `0`"
unfoldable pub digits_in : ℕ → ℕ → List ℕ
digits_in zero v = []
digits_in (suc n) v = cond (ltb v 10) (digit v ∷ []) (digits_in n (v / 10) ++ (digit (v % 10) ∷ []))

-- a value in decimal
unfoldable pub digits : ℕ → List ℕ
digits = digits_in max_digits

-- a word and a number behind it
abbrev pub counted : List ℕ → ℕ → List ℕ
counted word n = word ++ digits n
