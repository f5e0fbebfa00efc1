-- The writer's call, by what its steps answer. Assumes nothing.
use Prim.Native.Nat.{ℕ, ◌≤◌, ◌<◌}
use mathlib.Core.Path.{◌≡◌}
use mathlib.Core.Bool.{true, false}
use mathlib.Core.List.{List}
use Rattle.std.specs.Prelude.{None, Some}
use lib.ListN.{length, take}
use borrow.Author.Tests.{le-leb, lt-leb}
use Rattle.refusal.specs.declared.Refusal.{Refusal}
use Rattle.refusal.specs.declared.Subject.TheVariants.{Values}
use Rattle.refusal.specs.declared.Fault.TheVariants.{TooShort, HeldDoesNotFit, NotSatisfied}
use Rattle.refusal.specs.Result.{Ok, Err, refusal}
use Rattle.constraint.specs.File.{File}
use Rattle.constraint.specs.Read.{read_file}
use Rattle.judge.specs.Judge.{fresh_verdicts, overall_of}
use Rattle.judge.specs.InUse.{first_unfit}
use Rattle.printing.specs.Output.{room_for}
use Rattle.writer.specs.Text.{answer_text}
use Rattle.writer.specs.Write.{is_satisfied, writing_for, writing}

module _ (constraint values output : List ℕ) where
  pub writing_constraint : (r : Refusal) → Err r ≡ read_file constraint → Err r ≡ writing constraint values output
  unfolding writing
  writing_constraint r e = rw (← e)

  module _ (f : File) (e : Ok f ≡ read_file constraint) (n : ℕ) (l : length f.variables ≡ n) where
    pub writing_short : length values < n → Err (refusal Values TooShort 0) ≡ writing constraint values output
    unfolding writing writing_for
    writing_short h = rw (← e, l, lt-leb n (length values) h)

    module _ (h : n ≤ length values) where
      pub writing_unfit : (i : ℕ) → Some i ≡ first_unfit f.variables (take n values) → Err (refusal Values HeldDoesNotFit i) ≡ writing constraint values output
      unfolding writing writing_for
      writing_unfit i k = rw (← e, l, le-leb n (length values) h, ← k)

      module _ (k : None ≡ first_unfit f.variables (take n values)) where
        pub writing_unsatisfied : false ≡ is_satisfied (overall_of (fresh_verdicts f (take n values))) → Err (refusal Values NotSatisfied 0) ≡ writing constraint values output
        unfolding writing writing_for
        writing_unsatisfied s = rw (← e, l, le-leb n (length values) h, ← k, ← s)

        pub writing_text : true ≡ is_satisfied (overall_of (fresh_verdicts f (take n values))) → room_for (answer_text f.variables (take n values)) (length output) ≡ writing constraint values output
        unfolding writing writing_for
        writing_text s = rw (← e, l, le-leb n (length values) h, ← k, ← s)
