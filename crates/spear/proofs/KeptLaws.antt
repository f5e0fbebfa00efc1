-- Every reply is in range, so its word loses nothing of it. Assumes nothing.
use Prim.Native.Nat.{ℕ, ◌≤◌}
use mathlib.Core.Path.{◌≡◌, refl, ap}
use mathlib.Core.List.{List, []}
use native.Mathlib.Omega.{arith}
use lib.ListN.{length, get_or, set}
use lib.Seq.{length-take-le}
use Rattle.edition.specs.Word.{word_bits}
use Rattle.refusal.specs.Result.{Reply, Ok, Err, ◌>>=◌}
use Rattle.refusal.proofs.ManyLaws.{many_most}
use Rattle.arithmetic.proofs.PlaceLaws.{bits_most}
use Rattle.constraint.specs.File.{File}
use Rattle.constraint.specs.Read.{read_file}
use Rattle.constraint.specs.Sound.{SoundFile}
use Rattle.constraint.proofs.SoundLaws.{accepted_is_sound, read_short}
use Rattle.judge.specs.declared.Overall.{Overall}
use Rattle.judge.specs.declared.Overall.TheVariants.{Satisfied, Violated, Disregarded}
use Rattle.judge.specs.Judge.{verdict_byte, fresh_verdicts, overall_of}
use Rattle.judge.specs.InUse.{Tables, row_in_use, column_in_use, room_of}
use Rattle.judge.proofs.VerdictLaws.{column_length}
use Rattle.judge.proofs.OverallLaws.{Named, overall_named}
use Rattle.printing.specs.Output.{written}
use Rattle.writer.specs.Write.{writing_for, writing, write_outcome}
use Rattle.writer.proofs.RoundTripLaws.{written_short}
use Rattle.tables.specs.Check.{checking, checked, check_outcome}
use Rattle.clean.specs.Clean.{cleaning, clean_outcome}
use Rattle.clean.specs.Claims.{Cleans}
use Rattle.clean.proofs.ClaimLaws.{reads_back, never_longer}
use Rattle.index.specs.Index.{indexing, indexed, index_outcome}
use Rattle.index.specs.AnyIndex.{concerned}
use Rattle.index.proofs.SelectLaws.{concerned_length}
use Rattle.index.proofs.CountLaws.{lists_at_most}
use Rattle.index.proofs.BuiltLaws.{indexing_yields}
use Rattle.moves.specs.Step.{renewed, step}
use Rattle.moves.specs.Gate.{Call, admitted}
use Rattle.moves.specs.Change.{made, changed, change_by, change_outcome}
use Rattle.tables.proofs.CheckingLaws.{checking_steps}
use Rattle.moves.proofs.RenewLaws.{new_long}
use Rattle.moves.proofs.GateLaws.{Admitted, admitted_passed}
use Rattle.spear.specs.Pack.{deciding_line, CheckKept, ChangeKept, IndexKept, CleanKept, WriteKept}
use Rattle.spear.proofs.PackLaws.{CheckFits, ChangeFits, CountFits, check_back, change_back, count_back}
use Rattle.spear.proofs.MostLaws.{differing_most}
use Rattle.spear.proofs.RefusalFitsLaws.{file_fits, checking_fits, admitted_fits, indexing_fits, writing_fits, cleaning_fits}

-- ---- the line of an overall verdict
named_most : (o : Overall) (vs : List ℕ) → Named o vs → deciding_line o ≤ length vs
named_most Satisfied vs p = omega arith
named_most (Violated n) vs p = p.to
named_most (Disregarded n) vs p = p.to

line_most : (vs : List ℕ) → deciding_line (overall_of vs) ≤ length vs
line_most vs = named_most (overall_of vs) vs (overall_named vs)

-- ---- the check
module _ (constraint answer : List ℕ) (t : Tables) where
  checked_fits : (r : Reply (File × List ℕ)) → checking constraint answer (room_of t) ≡ r → CheckFits (checked t r).reply
  checked_fits (Ok (f, row)) e =
      let sound = accepted_is_sound constraint f (checking_steps constraint answer (room_of t) f row e).file in
      omega (arith, line_most (fresh_verdicts f row), column_length (λ j. verdict_byte j.verdict) f.variables row f.lines, sound.few_lines)
  checked_fits (Err x) e = (checking_fits constraint answer (room_of t)).holds x e

  pub check_fits : CheckFits (check_outcome constraint answer t).reply
  check_fits = checked_fits (checking constraint answer (room_of t)) refl

-- ---- the change
module _ (t : Tables) (c : Call) where
  made_fits : (f : File) → SoundFile f → Admitted f t c → ChangeFits (made f t c).reply
  unfolding made step
  made_fits f sound p =
      let m = length f.lines in
      let i = c.change.variable in
      let row = set (row_in_use f t.values) i c.change.value in
      let held = column_in_use f t.verdicts in
      let held_long = length-take-le m t.verdicts p.is_entitled.has_room.verdicts in
      let lines = concerned f c.index i in
      let new = renewed lines (fresh_verdicts f row) held in
      record {
        line = omega (arith, line_most new, new_long (λ j. verdict_byte j.verdict) f c.index i row held held_long, held_long, sound.few_lines);
        named = omega (arith, many_most (λ b. b) lines, concerned_length f c.index i, sound.few_lines);
        altered = omega (arith, differing_most held new, held_long, sound.few_lines);
        bits = omega (arith, bits_most word_bits (get_or (row_in_use f t.values) i 0) c.change.value);
      }

  changed_fits : (f : File) → SoundFile f → (r : Reply (Unit {0})) → admitted f t c ≡ r → ChangeFits (changed f t c r).reply
  changed_fits f sound (Ok tt) e = made_fits f sound (admitted_passed f t c e)
  changed_fits f sound (Err x) e = (admitted_fits f sound t c).holds x e

  by_fits : (constraint : List ℕ) (r : Reply File) → read_file constraint ≡ r → ChangeFits (change_by r t c).reply
  by_fits constraint (Ok f) e = changed_fits f (accepted_is_sound constraint f e) (admitted f t c) refl
  by_fits constraint (Err x) e = (file_fits constraint).holds x e

-- ---- the building of an index
module _ (constraint starts lists : List ℕ) where
  indexed_fits : (r : Reply File) → indexing constraint starts lists ≡ r → CountFits (indexed starts lists r).reply
  indexed_fits (Ok f) e = omega (arith, lists_at_most constraint f ((indexing_yields constraint starts lists).holds f e))
  indexed_fits (Err x) e = (indexing_fits constraint starts lists).holds x e

-- ---- the cleaning
module _ (constraint output : List ℕ) where
  cleaned_fits : (r : Reply (List ℕ)) → cleaning constraint output ≡ r → CountFits (written output r).reply
  cleaned_fits (Ok text) e =
      let c : Cleans constraint text = record { room = output; outcome = ap (written output) e } in
      let b = reads_back constraint text c in
      omega (arith, never_longer constraint text c, read_short constraint b.0 b.1)
  cleaned_fits (Err x) e = (cleaning_fits constraint output).holds x e

-- ---- the writing of an answer
module _ (values output : List ℕ) where
  written_fits : (constraint : List ℕ) (f : File) → read_file constraint ≡ Ok f → (r : Reply (List ℕ)) → writing_for f values output ≡ r → CountFits (written output r).reply
  written_fits constraint f e (Ok text) q = omega (arith, written_short constraint values output text f e q)
  written_fits constraint f e (Err x) q = (writing_fits f (accepted_is_sound constraint f e) values [] output).holds x q

  by_writing : (constraint : List ℕ) (r : Reply File) → read_file constraint ≡ r → CountFits (written output (r >>= λ f. writing_for f values output)).reply
  by_writing constraint (Ok f) e = written_fits constraint f e (writing_for f values output) refl
  by_writing constraint (Err x) e = (file_fits constraint).holds x e

-- ---- nothing is lost
pub check_kept : CheckKept
check_kept constraint answer t = check_back (check_outcome constraint answer t).reply (check_fits constraint answer t)

pub change_kept : ChangeKept
change_kept constraint t c = change_back (change_outcome constraint t c).reply (by_fits t c constraint (read_file constraint) refl)

pub index_kept : IndexKept
index_kept constraint starts lists = count_back (index_outcome constraint starts lists).reply (indexed_fits constraint starts lists (indexing constraint starts lists) refl)

pub clean_kept : CleanKept
clean_kept constraint output = count_back (clean_outcome constraint output).reply (cleaned_fits constraint output (cleaning constraint output) refl)

pub write_kept : WriteKept
unfolding writing
write_kept constraint values output = count_back (write_outcome constraint values output).reply (by_writing values output constraint (read_file constraint) refl)
