-- What the writer accepts, the reader reads back. Assumes nothing.
use Prim.Native.Nat.{ℕ, ◌≤◌}
use mathlib.Core.Path.{◌≡◌, refl, subst}
use mathlib.Core.List.{List}
use Rattle.std.specs.Prelude.{None}
use lib.Dec.{leb}
use lib.ListN.{length, take}
use lib.Seq.{length-take-le, take_at}
use borrow.Author.Tests.{leb-true}
use Rattle.edition.specs.Edition.{max_file_bytes}
use Rattle.refusal.specs.Result.{Reply, Ok, Err}
use Rattle.refusal.proofs.ResultLaws.{never, Yields, yields_accepted, yields_ensure, yields_none}
use Rattle.constraint.specs.File.{File, edition_of}
use Rattle.constraint.specs.Read.{read_file}
use Rattle.constraint.proofs.SoundLaws.{accepted_is_sound}
use Rattle.judge.specs.Judge.{fresh_verdicts, overall_of}
use Rattle.judge.specs.InUse.{row_in_use, first_unfit}
use Rattle.judge.proofs.FitLaws.{row_fits}
use Rattle.answer.specs.Read.{read_answer}
use Rattle.answer.specs.Claims.{Sets}
use Rattle.answer.proofs.AcceptsLaws.{accepts_exactly}
use Rattle.printing.specs.Output.{written}
use Rattle.writer.specs.Text.{answer_text}
use Rattle.writer.specs.Write.{is_satisfied, writing_for, writing}
use Rattle.writer.specs.Claims.{RoundTrip}
use Rattle.writer.proofs.TextSets.{text_sets}

-- what holds of values that are written
pub record Writes (f : File) (values text : List ℕ) : Type 0 where
  pub room : length f.variables ≤ length values
  pub fit : first_unfit f.variables (row_in_use f values) ≡ None
  pub text_is : answer_text f.variables (row_in_use f values) ≡ text

writing_yields : (f : File) (values output : List ℕ) → Yields (Writes f values) (writing_for f values output)
unfolding writing_for
writing_yields f values output =
    yields_ensure (leb (length f.variables) (length values)) _ λ a.
    yields_none (first_unfit f.variables (row_in_use f values)) _ λ b.
    yields_ensure (is_satisfied (overall_of (fresh_verdicts f (row_in_use f values)))) _ λ _.
    yields_ensure (leb (length (answer_text f.variables (row_in_use f values))) (length output)) _ λ _.
    yields_accepted (record { room = leb-true (length f.variables) (length values) a; fit = b; text_is = refl })

-- the text is an answer that sets them
module _ (constraint values text : List ℕ) (f : File) (e : read_file constraint ≡ Ok f) (w : Writes f values text) where
  writes_sets : Sets f.variables text (row_in_use f values)
  writes_sets =
      let s = accepted_is_sound constraint f e in
      let long = length-take-le (length f.variables) values w.room in
      subst (λ t. Sets f.variables t (row_in_use f values)) w.text_is
      (text_sets (edition_of f) f.variables (row_in_use f values) s.few_variables s.variables s.distinct long (λ i _. row_fits f.variables (row_in_use f values) long w.fit i))

  read_back : read_answer f.variables text ≡ Ok (row_in_use f values)
  read_back =
      let s = accepted_is_sound constraint f e in
      (accepts_exactly (edition_of f) f.variables text (row_in_use f values) s.variables s.distinct).1 writes_sets

-- it is no longer than a file may be
pub written_short : (constraint values output text : List ℕ) (f : File) → read_file constraint ≡ Ok f → writing_for f values output ≡ Ok text → length text ≤ max_file_bytes
written_short constraint values output text f e q = (writes_sets constraint values text f e ((writing_yields f values output).holds text q)).short

-- the text stands at the front of the room
module _ (constraint values output : List ℕ) (f : File) (n : ℕ) (e : read_file constraint ≡ Ok f) where
  by_result : (w : Reply (List ℕ)) → writing_for f values output ≡ w → (written output w).reply ≡ Ok n → read_answer f.variables (take n (written output w).output) ≡ Ok (row_in_use f values)
  by_result (Ok text) q r =
      let l : length text ≡ n = cc r in
      rw (take_at text _ n l) (read_back constraint values text f e ((writing_yields f values output).holds text q))
  by_result (Err x) q r = never (cc r)

pub round_trip : RoundTrip
unfolding writing
round_trip constraint values output f n e r =
    let z = by_result constraint values output f n e (writing_for f values output) refl in
    rw e (z (rw e at r))
