-- The signed reading of a number of k bits, and the signed quotient.
use Rattle.std.specs.Prelude.{ℕ, suc, ◌+◌, ◌-◌, ◌/◌, ◌%◌, ◌^◌, cond, ltb, ℤ, pos, negsuc, neg_ℤ}
use Rattle.std.proofs.Math.IntN.{sub_ℕ}

-- "as signed integers, -2^(K-1) to 2^(K-1)-1": below 2^(k-1) the number itself, else the number less 2^k
unfoldable pub signed : ℕ → ℕ → ℤ
signed k a = cond (ltb a (2 ^ (k - 1))) (pos a) (sub_ℕ a (2 ^ k))

-- an integer modulo 2^k (`negsuc n` is -(n+1))
unfoldable pub modulo : ℕ → ℤ → ℕ
modulo k (pos n) = n % 2 ^ k
modulo k (negsuc n) = 2 ^ k - 1 - n % 2 ^ k

-- a / b, rounded up
unfoldable pub ceiling : ℕ → ℕ → ℕ
ceiling a b = (a + (b - 1)) / b

-- the signed quotient, by a divisor that is not zero: "rounded towards zero when the signs agree or a is 0, away from zero when they differ"
unfoldable pub quotient : ℤ → ℤ → ℤ
quotient (pos a) (pos b) = pos (a / b)
quotient (negsuc a) (negsuc b) = pos (suc a / suc b)
quotient (pos a) (negsuc b) = neg_ℤ (pos (ceiling a (suc b)))
quotient (negsuc a) (pos b) = neg_ℤ (pos (ceiling (suc a) b))
