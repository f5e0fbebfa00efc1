-- Every refusal of a call is in range. Assumes nothing.
use Prim.Native.Nat.{ℕ, ◌≤◌, ◌<◌, ◌^◌}
use mathlib.Core.Path.{◌≡◌}
use mathlib.Core.List.{List}
use Rattle.std.specs.Prelude.{Option, None, Some}
use native.Mathlib.Omega.{arith}
use lib.Dec.{ltb, leb}
use lib.ListN.{length, length-take}
use Rattle.refusal.specs.declared.Refusal.{Refusal}
use Rattle.refusal.specs.declared.Subject.{Subject}
use Rattle.refusal.specs.declared.Subject.TheVariants.{Values, Verdicts, Output, Call as CallsNumbers, Starts, Lists, Results}
use Rattle.refusal.specs.declared.Fault.{Fault}
use Rattle.refusal.specs.declared.Fault.TheVariants.{ValueDoesNotFit, TooShort, NotSatisfied, NoSuchVariable, HeldDoesNotFit, WrongIndex}
use Rattle.refusal.specs.Lists.{first_from}
use Rattle.refusal.specs.Result.{refusal}
use Rattle.refusal.proofs.ListLaws.{first_below}
use Rattle.refusal.proofs.RefusesLaws.{Refuses, refuses_accepted, refuses_bind, refuses_then, refuses_ensure, refuses_test, refuses_none, refuses_also}
use Rattle.constraint.specs.File.{Variable, File, width_at}
use Rattle.constraint.specs.Read.{read_file}
use Rattle.constraint.specs.Sound.{SoundFile}
use Rattle.judge.specs.Judge.{verdict_disregarded, fresh_verdicts, overall_of}
use Rattle.judge.specs.InUse.{Tables, row_in_use, column_in_use, Room, room_of, tables_room, value_words, first_unfit}
use Rattle.judge.proofs.RoomLaws.{room_refuses}
use Rattle.judge.proofs.UnfitLaws.{unfit}
use Rattle.answer.specs.Read.{read_answer}
use Rattle.writer.specs.Text.{answer_text}
use Rattle.writer.specs.Write.{is_satisfied, writing_for}
use Rattle.clean_text.specs.Text.{clean_text}
use Rattle.tables.specs.Check.{checking_for, checking}
use Rattle.clean.specs.Clean.{cleaning}
use Rattle.index.specs.Index.{Index, own_index, indexing}
use Rattle.index.specs.AnyIndex.{starts_fit, lists_fit, index_fits}
use Rattle.moves.specs.Step.{Change}
use Rattle.moves.specs.Gate.{Call, change_fits, entitled, admitted}
use Rattle.spear.proofs.PackLaws.{RefusalFits}
use Rattle.spear.proofs.FileNumberLaws.{FileNumber, file_numbered, answer_numbered}
use Rattle.spear.proofs.MostLaws.{zip_most}

-- ---- the two files
number_fits : (r : Refusal) → FileNumber r → RefusalFits r
number_fits r h = record { position = omega (arith, h.position) }

pub file_fits : (constraint : List ℕ) → Refuses RefusalFits (read_file constraint)
file_fits constraint = refuses_also number_fits (file_numbered constraint)

answer_fits : (xs : List Variable) (answer : List ℕ) → Refuses RefusalFits (read_answer xs answer)
answer_fits xs answer = refuses_also number_fits (answer_numbered xs answer)

-- ---- the check
-- a refusal at the start of what it speaks of
at_start : (s : Subject) (f : Fault) → RefusalFits (refusal s f 0)
at_start s f = record { position = omega arith }

-- the room of the tables
tables_fit : (f : File) (lent : Room) → Refuses RefusalFits (tables_room f lent)
tables_fit f lent = room_refuses f lent (at_start Values TooShort) (at_start Verdicts TooShort) (at_start Results TooShort)

pub checking_fits : (constraint answer : List ℕ) (lent : Room) → Refuses RefusalFits (checking constraint answer lent)
unfolding checking checking_for
checking_fits constraint answer lent =
    refuses_bind (file_fits constraint) λ f.
    refuses_bind (refuses_bind (answer_fits f.variables answer) λ row.
    refuses_then (tables_fit f lent)
    refuses_accepted) λ row.
    refuses_accepted

-- ---- the numbers of a change, its index, and what it finds in the tables
numbers_fit_lem : (f : File) (c : Change) → Refuses RefusalFits (change_fits f c)
unfolding change_fits
numbers_fit_lem f c =
    refuses_ensure (ltb c.variable (length f.variables)) _ (at_start CallsNumbers NoSuchVariable)
    (refuses_test (ltb c.value (2 ^ width_at f.variables c.variable)) _ (at_start CallsNumbers ValueDoesNotFit))

index_fits_lem : (f : File) (x : Option Index) → Refuses RefusalFits (index_fits f x)
index_fits_lem f None = refuses_accepted
index_fits_lem f (Some x) =
    refuses_ensure (starts_fit (length f.variables) x) _ (at_start Starts WrongIndex)
    (refuses_test (lists_fit (length f.variables) (length f.lines) x) _ (at_start Lists WrongIndex))

-- no more values are held than there are variables
held_most : (xs : List Variable) (values : List ℕ) → length (value_words xs values) ≤ length xs
unfolding value_words
held_most xs values = zip_most _ xs values

module _ (f : File) (sound : SoundFile f) (values verdicts : List ℕ) where
  -- the first entry that does not fit is one of those in use
  unfit_place : (i : ℕ) → first_unfit f.variables (row_in_use f values) ≡ Some i → RefusalFits (refusal Values HeldDoesNotFit i)
  unfolding first_unfit
  unfit_place i e = record { position = omega (arith, first_below unfit 0 i (value_words f.variables (row_in_use f values)) e, held_most f.variables (row_in_use f values), sound.few_variables) }

  verdict_place : (i : ℕ) → first_from (ltb verdict_disregarded) 0 (column_in_use f verdicts) ≡ Some i → RefusalFits (refusal Verdicts HeldDoesNotFit i)
  verdict_place i e = record { position = omega (arith, first_below (ltb verdict_disregarded) 0 i (column_in_use f verdicts) e, length-take (length f.lines) verdicts, sound.few_lines) }

  -- ---- the writing of an answer
  pub writing_fits : (output : List ℕ) → Refuses RefusalFits (writing_for f values output)
  unfolding writing_for
  writing_fits output =
      refuses_ensure (leb (length f.variables) (length values)) _ (at_start Values TooShort) (
      refuses_then (refuses_none (first_unfit f.variables (row_in_use f values)) _ unfit_place) (
      refuses_ensure (is_satisfied (overall_of (fresh_verdicts f (row_in_use f values)))) _ (at_start Values NotSatisfied) (
      refuses_ensure (leb (length (answer_text f.variables (row_in_use f values))) (length output)) _ (at_start Output TooShort)
      refuses_accepted)))

-- ---- the change
pub admitted_fits : (f : File) → SoundFile f → (t : Tables) (c : Call) → Refuses RefusalFits (admitted f t c)
unfolding admitted entitled
admitted_fits f sound t c =
    refuses_then (refuses_then (tables_fit f (room_of t)) (numbers_fit_lem f c.change)) (
    refuses_then (refuses_none (first_unfit f.variables (row_in_use f t.values)) _ (unfit_place f sound t.values t.verdicts)) (
    refuses_then (refuses_none (first_from (ltb verdict_disregarded) 0 (column_in_use f t.verdicts)) _ (verdict_place f sound t.values t.verdicts))
    (index_fits_lem f c.index)))

-- ---- the building of an index
pub indexing_fits : (constraint starts lists : List ℕ) → Refuses RefusalFits (indexing constraint starts lists)
unfolding indexing
indexing_fits constraint starts lists =
    refuses_bind (file_fits constraint) λ f.
    refuses_ensure (leb (length (own_index f).starts) (length starts)) _ (at_start Starts TooShort) (
    refuses_ensure (leb (length (own_index f).lists) (length lists)) _ (at_start Lists TooShort)
    refuses_accepted)

-- ---- the cleaning
pub cleaning_fits : (constraint output : List ℕ) → Refuses RefusalFits (cleaning constraint output)
unfolding cleaning
cleaning_fits constraint output =
    refuses_bind (file_fits constraint) λ f.
    refuses_ensure (leb (length (clean_text f)) (length output)) _ (at_start Output TooShort)
    refuses_accepted
