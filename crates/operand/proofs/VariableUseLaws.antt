-- A variable that is used. Assumes nothing.
use Prim.Native.Nat.{ℕ, ◌-◌, ◌≤◌, ◌<◌}
use mathlib.Core.Path.{◌≡◌}
use mathlib.Core.List.{List}
use Rattle.std.specs.Prelude.{None, Some}
use lib.ListN.{length, drop, length-drop}
use borrow.Author.Tests.{le-leb, lt-leb}
use Rattle.edition.specs.Edition.{max_name_bytes}
use Rattle.refusal.specs.declared.Fault.TheVariants.{OverLimit, NotDeclared}
use Rattle.refusal.specs.Result.{Ok, Err}
use Rattle.text.specs.Scan.{token_at}
use Rattle.constraint.specs.declared.Operand.TheVariants.{Var}
use Rattle.constraint.specs.File.{Variable, variable_named}
use Rattle.constraint.specs.Read.{in_constraint, read_variable}

-- a variable that is used, from a place to the end of a text
module _ (xs : List Variable) (text : List ℕ) (start : ℕ) where
  pub variable_long : max_name_bytes < length text - start → Err (in_constraint (token_at text start) OverLimit) ≡ read_variable xs (token_at text start)
  unfolding read_variable
  variable_long h = rw (length-drop, lt-leb (length text - start) max_name_bytes h)

  module _ (h : length text - start ≤ max_name_bytes) where
    pub variable_found : (i : ℕ) → Some i ≡ variable_named (drop start text) xs → Ok (Var i) ≡ read_variable xs (token_at text start)
    unfolding read_variable
    variable_found i e = rw (length-drop, le-leb (length text - start) max_name_bytes h, ← e)

    pub variable_unknown : None ≡ variable_named (drop start text) xs → Err (in_constraint (token_at text start) NotDeclared) ≡ read_variable xs (token_at text start)
    unfolding read_variable
    variable_unknown e = rw (length-drop, le-leb (length text - start) max_name_bytes h, ← e)
