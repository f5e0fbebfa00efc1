-- The `s` line, by what its tokens are. Assumes nothing.
use Prim.Native.Nat.{ℕ, ◌+◌, ◌≤◌}
use mathlib.Core.Path.{◌≡◌}
use mathlib.Core.Bool.{Bool, true, false}
use mathlib.Core.List.{List, [], ◌∷◌}
use Rattle.std.specs.Prelude.{Option}
use lib.ListN.{length, drop}
use Rattle.refusal.specs.declared.Refusal.{Refusal}
use Rattle.refusal.specs.declared.Subject.TheVariants.{Answer}
use Rattle.refusal.specs.declared.Fault.TheVariants.{MisplacedLine, TokenCount}
use Rattle.refusal.specs.Result.{Ok, Err, refusal, refused_as}
use Rattle.text.specs.Lines.{Token, tokens_from}
use Rattle.text.specs.Scan.{line_at}
use Rattle.text.specs.Reading.{no_more_tokens}
use Rattle.text.proofs.TokenLaws.{arguments_at, end_at}
use Rattle.answer.specs.Read.{in_answer, settings_of, solution_of, read_solution}

module _ (solved : Bool) (vs : List (Option ℕ)) (line : List ℕ) (at next : ℕ) where
  pub solution_misplaced : solved ≡ true → Err (refusal Answer MisplacedLine at) ≡ read_solution (settings_of solved vs) (line_at line at next)
  unfolding read_solution
  solution_misplaced e = rw e

  module _ (e : solved ≡ false) where
    pub solution_missing : at ≤ length line → tokens_from true (at + 1) (drop (at + 1) line) ≡ [] → Err (refusal Answer TokenCount (length line)) ≡ read_solution (settings_of solved vs) (line_at line at next)
    unfolding read_solution
    solution_missing h ts = rw (e, arguments_at line at next, ts, end_at line at next h)

    -- by its first token
    module _ {t : Token} {ts : List Token} (k : tokens_from true (at + 1) (drop (at + 1) line) ≡ t ∷ ts) where
      -- it is not the word
      pub solution_other : (r : Refusal) → Err r ≡ refused_as (in_answer t) (solution_of t.bytes) → Err r ≡ read_solution (settings_of solved vs) (line_at line at next)
      unfolding read_solution
      solution_other r w = rw (e, arguments_at line at next, k, ← w)

      module _ (w : Ok tt ≡ refused_as (in_answer t) (solution_of t.bytes)) where
        pub solution_surplus : (r : Refusal) → Err r ≡ no_more_tokens Answer ts → Err r ≡ read_solution (settings_of solved vs) (line_at line at next)
        unfolding read_solution
        solution_surplus r m = rw (e, arguments_at line at next, k, ← w, ← m)

        pub solution_read : Ok tt ≡ no_more_tokens Answer ts → Ok (settings_of true vs) ≡ read_solution (settings_of solved vs) (line_at line at next)
        unfolding read_solution
        solution_read m = rw (e, arguments_at line at next, k, ← w, ← m)
