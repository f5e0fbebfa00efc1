use native.Mathlib.Omega.{arith}
use Rattle.store.specs.Hash.{bucket_of}
use borrow.Author.Rules.{rules}
use Rattle.store.proofs.hashing.bucket.Goals as goal

pub returns : goal.returns
unfolding bucket_of
returns c = (search rules, omega arith)
