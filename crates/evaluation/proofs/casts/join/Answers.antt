use Rattle.std.proofs.Common.{◌≡◌, ℕ, ◌+◌, ◌*◌, ◌%◌, ◌^◌, ◌<◌, ◌≤◌, shl_exact}
use lib.Bits.{bit_or, or_shifted}
use Rattle.edition.specs.Word.{word_bits}
use Rattle.evaluation.proofs.casts.join.Goals as goal

-- the bits of b below those of a, within a word
below : (x y a b : ℕ) → a < 2 ^ x → b < 2 ^ y → x + y ≤ word_bits → bit_or (a * 2 ^ y % 2 ^ word_bits) b ≡ a * 2 ^ y + b
below x y a b ha hb h = rw (shl_exact x y word_bits ha h) (or_shifted a y b hb)

pub returns : goal.returns
returns c = below c.args.x c.args.y c.args.a c.args.b c.requires.bound c.requires.bound₂ c.requires.most
