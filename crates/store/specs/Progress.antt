-- As much of a file as is read: its counts, and the file in the tables.
use Rattle.std.specs.Prelude.{◌≡◌, ℕ, ◌+◌, ◌≤◌, ◌<◌, List, None, Some}
use Rattle.edition.specs.Edition.{max_variables, max_lines}
use Rattle.refusal.specs.Result.{Reply, accepted_as}
use Rattle.store.specs.declared.Progress.{Progress}
use Rattle.store.specs.declared.Part.{Part}
use Rattle.store.specs.declared.Part.TheVariants.{Nothing, Version, Expectation, Variables, Line}
use Rattle.constraint.specs.File.{File}
use Rattle.store.specs.Tables.{variables_in, lines_in, AllHeadsFit, Store}

-- the file as far as it is read, out of the tables
abbrev pub stored_file : List ℕ → Store → Progress → File
stored_file bytes t p = record {
  version = p.version;
  expectation = p.expectation;
  variables = variables_in bytes t.variables p.variables;
  lines = lines_in t.heads t.bodies p.lines;
}

-- before the first line
abbrev pub nothing_read : Progress
nothing_read = record { version = None; expectation = None; variables = 0; lines = 0 }

-- the same progress with what a line adds
abbrev pub with_part : Progress → Part → Progress
with_part p Nothing = p
with_part p (Version e) = record { version = Some e; expectation = p.expectation; variables = p.variables; lines = p.lines }
with_part p (Expectation n) = record { version = p.version; expectation = Some n; variables = p.variables; lines = p.lines }
with_part p (Variables n) = record { version = p.version; expectation = p.expectation; variables = n; lines = p.lines }
with_part p Line = record { version = p.version; expectation = p.expectation; variables = p.variables; lines = p.lines + 1 }

-- the progress that a line makes, and the file with what it adds; or its refusal
abbrev pub advanced : Progress → Reply Part → Reply Progress
advanced p = accepted_as (with_part p)

abbrev pub added_result : List ℕ → Store → Progress → Reply Part → Reply File
added_result bytes t p added = accepted_as (stored_file bytes t) (advanced p added)

-- the heads of the lines have the widths of their operands
abbrev pub HeadsInUseFit : List ℕ → Store → Progress → Type 0
HeadsInUseFit bytes t p = AllHeadsFit (variables_in bytes t.variables p.variables) t.heads t.bodies p.lines

-- the counts lie within the tables
pub record InTables (p : Progress) : Type 0 where
  pub variables : p.variables ≤ max_variables
  pub lines : p.lines ≤ max_lines

-- what a `v` or `e` line adds, and a `d` line, which stands before the first line of the table
abbrev pub AddsHeader : Part → Type 0
AddsHeader Nothing = Unit {0}
AddsHeader (Version e) = Unit {0}
AddsHeader (Expectation n) = Unit {0}
AddsHeader (Variables n) = ⊥
AddsHeader Line = ⊥

abbrev pub AddsVariables : Progress → Part → Type 0
AddsVariables p Nothing = ⊥
AddsVariables p (Version e) = ⊥
AddsVariables p (Expectation n) = ⊥
AddsVariables p (Variables n) = (n ≤ max_variables) × (p.lines ≡ 0)
AddsVariables p Line = ⊥

-- there is room for what a line adds
abbrev pub HasRoom : Progress → Part → Type 0
HasRoom p Nothing = Unit {0}
HasRoom p (Version e) = Unit {0}
HasRoom p (Expectation n) = Unit {0}
HasRoom p (Variables n) = n ≤ max_variables
HasRoom p Line = p.lines < max_lines
