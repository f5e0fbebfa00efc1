-- Every line keeps a file sound, and an accepted file is sound. Assumes nothing.
use Prim.Native.Nat.{ℕ, ◌≤◌}
use mathlib.Core.Path.{◌≡◌}
use mathlib.Core.Bool.{not, ◌&&◌}
use mathlib.Core.List.{List}
use native.Mathlib.Omega.{arith}
use lib.Dec.{leb}
use lib.ListN.{length}
use borrow.Author.Tests.{leb-true}
use Rattle.edition.specs.declared.Edition.{Edition}
use Rattle.edition.specs.Edition.{max_file_bytes}
use Rattle.refusal.specs.declared.Subject.TheVariants.{Constraint}
use Rattle.refusal.specs.declared.Fault.TheVariants.{WrongVersion, WrongExpectation}
use Rattle.std.specs.Prelude.{is_some}
use Rattle.refusal.specs.Result.{Ok}
use Rattle.refusal.proofs.ResultLaws.{Yields, yields_accepted, yields_refused, yields_bind, yields_ensure, yields_also, yields_itself}
use Rattle.text.specs.Lines.{TextLine, text_lines}
use Rattle.text.specs.Reading.{read_lines, read_text}
use Rattle.text.proofs.ReadingLaws.{keeps_text}
use Rattle.constraint.specs.declared.Kind.{Kind}
use Rattle.constraint.specs.declared.Kind.TheVariants.{Skipped, OfVersion, OfExpectation, OfDeclarations, OfStatement, OfNoKind}
use Rattle.constraint.specs.File.{Variable, File, empty_file, with_version, with_expectation, edition_of}
use Rattle.spelling.specs.Operators.{spellings}
use Rattle.constraint.specs.Read.{in_header, version_of, read_version, expectation_of, read_expectation, kind_of, read_as, read_line, read_file}
use Rattle.constraint.specs.Sound.{SoundVariable, SoundFile, AcceptedIsSound}
use Rattle.constraint.proofs.EachLaws.{each_map}
use Rattle.constraint.proofs.DeclarationLaws.{declarations_keep}
use Rattle.constraint.proofs.OperationLaws.{statement_keeps}
use Rattle.constraint.proofs.TokenLaws.{single_yields, add_yields}

-- the editions have the same spellings
pub any_edition : (e d : Edition) (x : Variable) → SoundVariable e x → SoundVariable d x
unfolding spellings
any_edition e d x h = record { spelt = h.spelt; not_empty = h.not_empty; short = h.short; free = h.free; width = h.width }

with_version_lem : (f : File) (e : Edition) → SoundFile f → SoundFile (with_version f e)
with_version_lem f e h = record {
  few_variables = h.few_variables;
  few_lines = h.few_lines;
  variables = each_map (any_edition (edition_of f) e) f.variables h.variables;
  distinct = h.distinct;
  lines = h.lines;
}

version_keeps : (f : File) (l : TextLine) → SoundFile f → Yields SoundFile (read_version f l)
unfolding read_version
version_keeps f l h = single_yields (in_header f && not (is_some f.version)) version_of WrongVersion (with_version f) l (λ t e _ _ _. with_version_lem f e h)

with_expectation_lem : (f : File) (n : ℕ) → SoundFile f → SoundFile (with_expectation f n)
with_expectation_lem f n h = record { few_variables = h.few_variables; few_lines = h.few_lines; variables = h.variables; distinct = h.distinct; lines = h.lines }

expectation_keeps : (f : File) (l : TextLine) → SoundFile f → Yields SoundFile (read_expectation f l)
unfolding read_expectation
expectation_keeps f l h = single_yields (in_header f && not (is_some f.expectation)) expectation_of WrongExpectation (with_expectation f) l (λ t n _ _ _. with_expectation_lem f n h)

as_keeps : (k : Kind) (f : File) (l : TextLine) → SoundFile f → Yields SoundFile (read_as k f l)
unfolding read_as
as_keeps Skipped f l h = yields_accepted h
as_keeps OfVersion f l h = version_keeps f l h
as_keeps OfExpectation f l h = expectation_keeps f l h
as_keeps OfDeclarations f l h = declarations_keep f l h
as_keeps (OfStatement form) f l h = add_yields f (statement_keeps f h l form)
as_keeps OfNoKind f l h = yields_refused

line_keeps : (f : File) (l : TextLine) → SoundFile f → Yields SoundFile (read_line f l)
unfolding read_line
line_keeps f l h = as_keeps (kind_of l.bytes) f l h

empty_sound : SoundFile empty_file
empty_sound = record { few_variables = omega arith; few_lines = omega arith; variables = tt; distinct = tt; lines = tt }

file_yields : (bytes : List ℕ) → Yields SoundFile (read_file bytes)
unfolding read_file
file_yields bytes =
    yields_bind (keeps_text Constraint read_line line_keeps empty_file bytes empty_sound) λ f h.
    yields_ensure (is_some f.version) _ λ _.
    yields_accepted h

pub accepted_is_sound : AcceptedIsSound
accepted_is_sound bytes f e = (file_yields bytes).holds f e

-- ---- the limit
within : (bytes : List ℕ) → Yields (λ f. length bytes ≤ max_file_bytes) (read_file bytes)
unfolding read_file read_text
within bytes =
    yields_bind (yields_ensure (leb (length bytes) max_file_bytes) _ λ e. yields_also (λ f h. leb-true (length bytes) max_file_bytes e) (yields_itself (read_lines Constraint read_line empty_file (text_lines bytes)))) λ f h.
    yields_ensure (is_some f.version) _ λ t.
    yields_accepted h

-- a file that is read is no longer than a file may be
pub read_short : (bytes : List ℕ) (f : File) → read_file bytes ≡ Ok f → length bytes ≤ max_file_bytes
read_short bytes f e = (within bytes).holds f e
