-- A number by its bit places, and the operators that go bit by bit.
use Rattle.std.specs.Prelude.{ℕ, zero, suc, ◌+◌, ◌-◌, ◌*◌, ◌/◌, ◌%◌, ◌^◌, min, max}
use Rattle.std.specs.Int.Bits.{differ}
use Rattle.arithmetic.specs.declared.Bitwise.{Bitwise}
use Rattle.arithmetic.specs.declared.Bitwise.TheVariants.{And, Or, Xor}

-- bit i of a, the lowest being bit 0
unfoldable pub bit : ℕ → ℕ → ℕ
bit a i = a / 2 ^ i % 2

-- the number of k bits whose bit i is f i
unfoldable pub places : ℕ → (ℕ → ℕ) → ℕ
places zero f = 0
places (suc k) f = f k * 2 ^ k + places k f

-- how many of the k bits f i are set
unfoldable pub bit_count : ℕ → (ℕ → ℕ) → ℕ
bit_count zero f = 0
bit_count (suc k) f = f k + bit_count k f

-- `&`, `|` and `^` of two bits
unfoldable pub on_bits : Bitwise → ℕ → ℕ → ℕ
on_bits And x y = min x y
on_bits Or x y = max x y
on_bits Xor x y = differ x y

-- `&`, `|` and `^` of two numbers of k bits
unfoldable pub combined : Bitwise → ℕ → ℕ → ℕ → ℕ
combined o k a b = places k (λ i. on_bits o (bit a i) (bit b i))

-- `~` of a number of k bits
unfoldable pub inverted : ℕ → ℕ → ℕ
inverted k a = places k (λ i. 1 - bit a i)

-- "the number of bits in which the old and the new value differ", of k bits
unfoldable pub differing_bits : ℕ → ℕ → ℕ → ℕ
differing_bits k a b = bit_count k (λ i. on_bits Xor (bit a i) (bit b i))
