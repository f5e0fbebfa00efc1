-- A word holds a value: 64 bits, whatever an edition's widths are.
use Rattle.std.specs.Prelude.{ℕ}

-- the bits of a word
abbrev pub word_bits : ℕ
word_bits = 64
