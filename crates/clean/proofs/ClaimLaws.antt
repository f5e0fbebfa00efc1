-- The claims on the call, from what holds of clean texts. Assumes nothing.
use Prim.Native.Nat.{ℕ, ◌≤◌}
use mathlib.Core.Path.{◌≡◌, refl, sym, ap, ◌∙◌, subst}
use mathlib.Core.List.{List, ◌++◌}
use native.Mathlib.Omega.{arith}
use lib.Dec.{leb}
use lib.ListN.{length, take, drop}
use lib.Seq.{take-append_seam, take_at}
use borrow.Author.Tests.{le-leb}
use Rattle.refusal.specs.Result.{Reply, Ok, Err, ◌>>=◌}
use Rattle.refusal.proofs.ResultLaws.{never, Yields, yields_accepted, yields_bind, yields_ensure, yields_itself}
use Rattle.constraint.specs.File.{File}
use Rattle.constraint.specs.Read.{read_file}
use Rattle.judge.specs.InUse.{room_of}
use Rattle.tables.specs.Check.{checking_for, checking, checked}
use Rattle.printing.specs.Output.{WriteOutcome, room_for, written}
use Rattle.clean_text.specs.Text.{clean_text}
use Rattle.clean_text.proofs.NeverLonger.{text_never_longer}
use Rattle.clean_text.proofs.CleanLaws.{text_reads_back, same_text_same_file, one_edition}
use Rattle.clean.specs.Clean.{cleaning}
use Rattle.clean.specs.Claims.{Cleans, ReadsBack, SameVerdicts, CleanAgain, NeverLonger, RoomOfTheFile, SameMap, EqualExactly}

-- a text is the clean text of the file that is read
record CleanOf (constraint text : List ℕ) : Type 0 where
  file : File
  is_read : read_file constraint ≡ Ok file
  is_text : text ≡ clean_text file

-- what is written is
cleaning_yields : (constraint output : List ℕ) → Yields (CleanOf constraint) (cleaning constraint output)
unfolding cleaning
cleaning_yields constraint output =
    yields_bind (yields_itself (read_file constraint)) λ f e.
    yields_ensure (leb (length (clean_text f)) (length output)) _ λ _.
    yields_accepted (record { file = f; is_read = e; is_text = refl })

written_is : (constraint room text : List ℕ) (r : Reply (List ℕ)) → Yields (CleanOf constraint) r → written room r ≡ record { reply = Ok (length text); output = text ++ drop (length text) room } → CleanOf constraint text
written_is constraint room text (Ok t) y e =
    let l : length t ≡ length text = cc (ap (λ (o : WriteOutcome). o.reply) e) in
    let fronts = ap (λ (o : WriteOutcome). take (length text) o.output) e in
    let same : t ≡ text = sym (take_at t (drop (length t) room) (length text) l) ∙ fronts ∙ take-append_seam text (drop (length text) room) in
    subst (CleanOf constraint) same (y.holds t refl)
written_is constraint room text (Err x) y e = never (cc (ap (λ (o : WriteOutcome). o.reply) e))

module _ {constraint text : List ℕ} (c : Cleans constraint text) where
  clean_of : CleanOf constraint text
  clean_of = written_is constraint c.room text (cleaning constraint c.room) (cleaning_yields constraint c.room) c.outcome

  -- the text reads to what the file reads to
  reads_same : read_file text ≡ read_file constraint
  reads_same = let o = clean_of in ap read_file o.is_text ∙ text_reads_back constraint o.file o.is_read ∙ sym o.is_read

pub reads_back : ReadsBack
reads_back constraint text c = let o = clean_of c in (o.file, o.is_read, reads_same c ∙ o.is_read)

pub same_verdicts : SameVerdicts
unfolding checking
same_verdicts constraint text c answer t =
    ap (λ r. checked t (r >>= λ f. checking_for f answer (room_of t) >>= λ row. Ok (f, row))) (reads_same c)

pub clean_again : CleanAgain
unfolding cleaning
clean_again constraint text c output = ap (λ r. written output (r >>= λ f. room_for (clean_text f) (length output))) (reads_same c)

pub never_longer : NeverLonger
never_longer constraint text c = let o = clean_of c in rw o.is_text (text_never_longer constraint o.file o.is_read)

pub room_of_the_file : RoomOfTheFile
unfolding cleaning
room_of_the_file constraint output f e h =
    let k : length (clean_text f) ≤ length output = omega (arith, text_never_longer constraint f e) in
    (length (clean_text f), rw (e, le-leb (length (clean_text f)) (length output) k))

-- ---- equal exactly
text_of : {constraint text : List ℕ} → Cleans constraint text → (f : File) → read_file constraint ≡ Ok f → text ≡ clean_text f
text_of c f e = let o = clean_of c in let same : o.file ≡ f = cc (sym o.is_read ∙ e) in o.is_text ∙ ap clean_text same

same_map : {f g : File} → f ≡ g → SameMap f g
same_map e = record { expectation = ap (λ x. x.expectation) e; variables = ap (λ x. x.variables) e; lines = ap (λ x. x.lines) e }

same_file : {f g : File} → f.version ≡ g.version → SameMap f g → f ≡ g
same_file v s = λ i. record { version = v i; expectation = s.expectation i; variables = s.variables i; lines = s.lines i }

pub equal_exactly : EqualExactly
equal_exactly constraint text constraint' text' f g c c' e e' =
    let p = text_of c f e in
    let q = text_of c' g e' in (
      λ same. same_map (same_text_same_file constraint constraint' f g e e' (sym p ∙ same ∙ q)),
      λ map. p ∙ ap clean_text (same_file (one_edition constraint f e ∙ sym (one_edition constraint' g e')) map) ∙ sym q,
    )
