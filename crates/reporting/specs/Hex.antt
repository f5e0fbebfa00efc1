-- The reading of hexadecimal digits.
use Rattle.std.specs.Prelude.{ℕ, ◌+◌, ◌-◌, ◌*◌, ◌%◌, ◌^◌, cond, List, [], ◌∷◌, ltb, leb}
use Prim.Native.Char.{code}

-- what a digit is worth; a byte that is none counts as 0
unfoldable pub digit_value : ℕ → ℕ
digit_value c =
    cond (ltb c (code "0")) 0 (cond (leb c (code "9")) (c - code "0") (cond (ltb c (code "a")) 0 (cond (leb c (code "f")) (c - code "a" + 10) 0)))

-- the number that digits spell behind those of n, modulo 2 ^ 64
unfoldable pub hex_after : ℕ → List ℕ → ℕ
hex_after n [] = n
hex_after n (c ∷ s) = hex_after ((n * 16 + digit_value c) % 2 ^ 64) s
