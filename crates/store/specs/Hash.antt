-- The hash of a name, and its bucket.
use Rattle.std.specs.Prelude.{ℕ, ◌+◌, ◌*◌, ◌/◌, ◌%◌, List, [], ◌∷◌}
use Rattle.edition.specs.Edition.{max_variables}

-- a hash is a number of 32 bits
abbrev pub hash_bound : ℕ
hash_bound = 4294967296

abbrev pub hash_factor : ℕ
hash_factor = 37

-- the hash of a name with one byte more
unfoldable pub hash_next : ℕ → ℕ → ℕ
hash_next h b = (h * hash_factor + b) % hash_bound

-- the hash of bytes behind those whose hash is h
unfoldable pub hash_after : ℕ → List ℕ → ℕ
hash_after h [] = h
hash_after h (b ∷ s) = hash_after (hash_next h b) s

unfoldable pub hash_of : List ℕ → ℕ
hash_of = hash_after 0

-- as many buckets as variables
abbrev pub buckets : ℕ
buckets = max_variables

-- above the low digits of a hash
abbrev pub hash_fold : ℕ
hash_fold = 1024

-- the bucket of a hash: its high digits folded into its low ones
unfoldable pub bucket_of : ℕ → ℕ
bucket_of h = (h + h / hash_fold) % buckets
