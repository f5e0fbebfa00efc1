-- The call that reads an answer, by what its steps answer. Assumes nothing.
use Prim.Native.Nat.{ℕ, ◌≤◌, ◌<◌}
use mathlib.Core.Path.{◌≡◌}
use mathlib.Core.List.{List, ◌++◌}
use lib.ListN.{length, take, drop}
use lib.Seq.{length-take-le}
use borrow.Author.Tests.{le-leb, lt-leb}
use Rattle.refusal.specs.declared.Refusal.{Refusal}
use Rattle.refusal.specs.declared.Subject.TheVariants.{Values}
use Rattle.refusal.specs.declared.Fault.TheVariants.{TooShort}
use Rattle.refusal.specs.Result.{Ok, Err, refusal}
use Rattle.constraint.specs.File.{File}
use Rattle.constraint.specs.Read.{read_file}
use Rattle.answer.specs.Read.{read_answer}
use Rattle.answer.specs.Call.{reading, ReadOutcome, stored}

module _ (constraint answer values : List ℕ) where
  pub reading_constraint : (r : Refusal) → Err r ≡ read_file constraint → Err r ≡ reading constraint answer values
  unfolding reading
  reading_constraint r e = rw (← e)

  module _ (f : File) (e : Ok f ≡ read_file constraint) where
    pub reading_answer : (r : Refusal) → Err r ≡ read_answer f.variables answer → Err r ≡ reading constraint answer values
    unfolding reading
    reading_answer r a = rw (← e, ← a)

    module _ (row : List ℕ) (a : Ok row ≡ read_answer f.variables answer) (n : ℕ) (l : length f.variables ≡ n) where
      pub reading_short : length values < n → Err (refusal Values TooShort 0) ≡ reading constraint answer values
      unfolding reading
      reading_short h = rw (← e, ← a, l, lt-leb n (length values) h)

      pub reading_row : n ≤ length values → Ok row ≡ reading constraint answer values
      unfolding reading
      reading_row h = rw (← e, ← a, l, le-leb n (length values) h)

-- the row stands in front
pub row_stored : (values row out : List ℕ) (n : ℕ) → n ≤ length row → out ≡ take n row ++ drop n values → ◌≡◌ {A = ReadOutcome} (record { reply = Ok n; values = out }) (stored values (Ok (take n row)))
row_stored values row out n h e = rw (e, length-take-le n row h)
