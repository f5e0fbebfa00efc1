-- The cases that the programs have room for.
use Rattle.std.specs.Prelude.{ℕ, ◌≤◌}
use Rattle.reporting.specs.declared.cases.Sizes.{Sizes}

-- the bytes of a file, and the entries of the three tables, at most
abbrev pub case_bytes : ℕ
case_bytes = 70000

abbrev pub case_values : ℕ
case_values = 300

abbrev pub case_verdicts : ℕ
case_verdicts = 1100

abbrev pub case_results : ℕ
case_results = 1100

-- a case that there is room for
pub record Fitted (s : Sizes) : Type 0 where
  pub constraint : s.constraint ≤ case_bytes
  pub answer : s.answer ≤ case_bytes
  pub values : s.values ≤ case_values
  pub verdicts : s.verdicts ≤ case_verdicts
  pub results : s.results ≤ case_results
