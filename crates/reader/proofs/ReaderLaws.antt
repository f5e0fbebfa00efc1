-- Reading line by line. Assumes nothing.
use Prim.Native.Nat.{ℕ, ◌≤◌, ◌<◌}
use mathlib.Core.Path.{◌≡◌, refl, sym, ap, ◌∙◌}
use mathlib.Core.Bool.{true, false}
use mathlib.Core.List.{List}
use Rattle.std.specs.Prelude.{is_some, IfOk}
use native.Mathlib.Nat.{add-zero}
use native.Mathlib.Decide.{dec_lt}
use native.Mathlib.Omega.{arith}
use lib.ListN.{length, get_or, drop}
use lib.Seq.{get_or-drop}
use Rattle.edition.specs.Edition.{max_file_bytes}
use Rattle.refusal.specs.declared.Refusal.{Refusal}
use Rattle.refusal.specs.declared.Subject.TheVariants.{Constraint}
use Rattle.refusal.specs.declared.Fault.TheVariants.{FileTooLong, MisplacedLine}
use Rattle.refusal.specs.Result.{Reply, Ok, Err, refusal}
use Rattle.text.specs.Lines.{TextLine, text_lines}
use Rattle.text.specs.Reading.{read_lines}
use Rattle.text.proofs.ReadingLaws.{text_long, text_lines_lem}
use Rattle.constraint.specs.declared.Kind.{Kind}
use Rattle.constraint.specs.File.{File, empty_file, with_line}
use Rattle.constraint.specs.Read.{kind_of, read_as, read_line, read_file}
use Rattle.store.specs.declared.Part.{Part}
use Rattle.store.specs.declared.Part.TheVariants.{Nothing, Version, Expectation, Variables, Line}
use Rattle.store.specs.declared.Progress.{Progress}
use Rattle.store.specs.Names.{Searchable}
use Rattle.store.specs.Tables.{tabulate, variables_in, line_in, lines_in, LinesKept, HeadsFit, Store, store_of}
use Rattle.store.specs.Progress.{nothing_read, stored_file, with_part, HeadsInUseFit, InTables, advanced, AddsHeader, AddsVariables, HasRoom}
use Rattle.store.proofs.LineTableLaws.{lines_length, lines_more, lines_kept, fit_kept}
use Rattle.store.proofs.LookupLaws.{variables_length}
use Rattle.reader.specs.declared.Counts.{Counts}
use Rattle.reader.specs.Inspect.{counts_of}

-- the first byte of a line
pub first_byte : (line : List ℕ) (at : ℕ) → get_or (drop at line) 0 0 ≡ get_or line at 0
first_byte line at = get_or-drop at line 0 0 ∙ ap (λ (n : ℕ). get_or line n 0) (add-zero at)

-- a line is read by its kind
pub of_kind : (k : Kind) (f : File) (l : TextLine) {r : Kind} → r ≡ kind_of l.bytes → r ≡ k → read_as k f l ≡ read_line f l
unfolding read_line
of_kind k f l e d = ap (λ x. read_as x f l) (sym d ∙ e)

-- ---- what a line adds
module _ (bytes : List ℕ) (t : Store) (p : Progress) where
  pub header_fits : (added : Reply Part) → IfOk added AddsHeader → HeadsInUseFit bytes t p → IfOk (advanced p added) (HeadsInUseFit bytes t)
  header_fits (Ok Nothing) a f = f
  header_fits (Ok (Version e)) a f = f
  header_fits (Ok (Expectation n)) a f = f
  header_fits (Ok (Variables n)) a f = absurd a
  header_fits (Ok Line) a f = absurd a
  header_fits (Err r) a f = tt

  pub header_searchable : (added : Reply Part) → IfOk added AddsHeader → Searchable bytes t.variables p.variables → IfOk (advanced p added) (λ q. Searchable bytes t.variables q.variables)
  header_searchable (Ok Nothing) a h = h
  header_searchable (Ok (Version e)) a h = h
  header_searchable (Ok (Expectation n)) a h = h
  header_searchable (Ok (Variables n)) a h = absurd a
  header_searchable (Ok Line) a h = absurd a
  header_searchable (Err r) a h = tt

  -- before the first line no head needs to fit
  pub variables_fit : (added : Reply Part) → IfOk added (AddsVariables p) → IfOk (advanced p added) (HeadsInUseFit bytes t)
  variables_fit (Ok Nothing) a = absurd a
  variables_fit (Ok (Version e)) a = absurd a
  variables_fit (Ok (Expectation n)) a = absurd a
  variables_fit (Ok (Variables n)) a = λ k h. let z : ⊥ = omega (arith, a.1) in absurd z
  variables_fit (Ok Line) a = absurd a
  variables_fit (Err r) a = tt

module _ (p : Progress) where
  pub header_room : (added : Reply Part) → IfOk added AddsHeader → IfOk added (HasRoom p)
  header_room (Ok Nothing) a = tt
  header_room (Ok (Version e)) a = tt
  header_room (Ok (Expectation n)) a = tt
  header_room (Ok (Variables n)) a = absurd a
  header_room (Ok Line) a = absurd a
  header_room (Err r) a = tt

  pub variables_room : (added : Reply Part) → IfOk added (AddsVariables p) → IfOk added (HasRoom p)
  variables_room (Ok Nothing) a = absurd a
  variables_room (Ok (Version e)) a = absurd a
  variables_room (Ok (Expectation n)) a = absurd a
  variables_room (Ok (Variables n)) a = a.0
  variables_room (Ok Line) a = absurd a
  variables_room (Err r) a = tt

  -- with room for it the counts stay within the tables
  pub room_enough : (part : Part) → InTables p → HasRoom p part → InTables (with_part p part)
  room_enough Nothing i a = i
  room_enough (Version e) i a = record { variables = i.variables; lines = i.lines }
  room_enough (Expectation n) i a = record { variables = i.variables; lines = i.lines }
  room_enough (Variables n) i a = record { variables = a; lines = i.lines }
  room_enough Line i a = record { variables = i.variables; lines = omega (arith, a) }

-- a line of the table behind those that are held
module _ (bytes variables heads bodies heads₂ bodies₂ : List ℕ) (p : Progress) (k : LinesKept heads bodies heads₂ bodies₂ p.lines) where
  pub line_added : stored_file bytes (store_of variables heads₂ bodies₂) (with_part p Line) ≡ with_line (stored_file bytes (store_of variables heads bodies) p) (line_in heads₂ bodies₂ p.lines)
  line_added = rw (lines_more heads₂ bodies₂ p.lines, lines_kept k)

  pub line_fits : HeadsFit (variables_in bytes variables p.variables) heads₂ bodies₂ p.lines → HeadsInUseFit bytes (store_of variables heads bodies) p → HeadsInUseFit bytes (store_of variables heads₂ bodies₂) (with_part p Line)
  line_fits h f i l = elim (dec_lt i p.lines) [
    | yes b ↦ fit_kept k (variables_in bytes variables p.variables) f i b
    | no b ↦ let e : i ≡ p.lines = omega arith in rw e h
  ]

-- before the first line nothing is held
pub nothing_held : (bytes : List ℕ) (t : Store) → stored_file bytes t nothing_read ≡ empty_file
unfolding variables_in lines_in tabulate
nothing_held bytes t = refl

-- ---- the whole file
pub file_long : (bytes : List ℕ) → max_file_bytes < length bytes → Err (refusal Constraint FileTooLong max_file_bytes) ≡ read_file bytes
unfolding read_file
file_long bytes h = rw (← text_long Constraint read_line empty_file bytes h)

module _ (bytes : List ℕ) (h : length bytes ≤ max_file_bytes) where
  pub file_refused : (r : Refusal) → Err r ≡ read_lines Constraint read_line empty_file (text_lines bytes) → Err r ≡ read_file bytes
  unfolding read_file
  file_refused r e = rw (← text_lines_lem Constraint read_line empty_file bytes h, ← e)

  module _ (f : File) (e : Ok f ≡ read_lines Constraint read_line empty_file (text_lines bytes)) where
    pub file_unversioned : is_some f.version ≡ false → Err (refusal Constraint MisplacedLine (length bytes)) ≡ read_file bytes
    unfolding read_file
    file_unversioned v = rw (← text_lines_lem Constraint read_line empty_file bytes h, ← e, v)

    pub file_read : is_some f.version ≡ true → Ok f ≡ read_file bytes
    unfolding read_file
    file_read v = rw (← text_lines_lem Constraint read_line empty_file bytes h, ← e, v)

-- the counts of what is held are the file's
pub counts_are : (bytes : List ℕ) (t : Store) (p : Progress) → ◌≡◌ {A = Reply Counts} (Ok (record { variables = p.variables; lines = p.lines })) (Ok (counts_of (stored_file bytes t p)))
counts_are bytes t p = rw (variables_length bytes t.variables p.variables, lines_length t.heads t.bodies p.lines)
