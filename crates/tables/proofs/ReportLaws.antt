-- The report, by what the check in its tables answers. Assumes nothing.
use Prim.Native.Nat.{ℕ, ◌≤◌}
use mathlib.Core.Path.{◌≡◌, refl, sym, ap, ap₂, ◌∙◌}
use mathlib.Core.List.{List, ◌++◌}
use native.Mathlib.Omega.{arith}
use lib.ListN.{length, take, drop, replicate, length-append, length-replicate}
use lib.Seq.{take_at}
use Rattle.edition.specs.Edition.{max_variables, max_lines}
use Rattle.refusal.specs.declared.Refusal.{Refusal}
use Rattle.refusal.specs.Result.{Reply, Ok, Err, ◌>>=◌}
use Rattle.refusal.proofs.ResultLaws.{never}
use Rattle.constraint.specs.File.{File}
use Rattle.constraint.specs.Read.{read_file}
use Rattle.constraint.specs.Sound.{SoundFile}
use Rattle.constraint.proofs.SoundLaws.{accepted_is_sound}
use Rattle.judge.specs.declared.Overall.{Overall}
use Rattle.judge.specs.Judge.{verdict_byte, fresh_verdicts, overall_of}
use Rattle.judge.specs.InUse.{Tables, tables_of, room_of, EnoughRoom}
use Rattle.judge.proofs.VerdictLaws.{column_length}
use Rattle.judge.proofs.RoomLaws.{room_accepted}
use Rattle.answer.specs.Read.{read_answer}
use Rattle.tables.specs.Internal.{CountsLines}
use Rattle.tables.specs.Check.{checking_for, checking, CheckOutcome, checked, check_outcome}
use Rattle.tables.specs.Report.{answering, tally_of, reported, report_outcome}
use Rattle.tables.proofs.CheckingLaws.{checking_steps}

-- ---- tables with room for any file: the check is accepted where the answer is
-- a step that changes nothing
again : (r : Reply (List ℕ)) → (r >>= λ row. Ok row) ≡ r
again (Ok row) = refl
again (Err x) = refl

-- the report's own
abbrev own : Tables
own = tables_of (replicate max_variables 0) (replicate max_lines 0) (replicate max_lines 0)

own_room : (f : File) → SoundFile f → EnoughRoom f (room_of own)
own_room f s = record {
  values = rw (length-replicate {A = ℕ} max_variables 0) s.few_variables;
  verdicts = rw (length-replicate {A = ℕ} max_lines 0) s.few_lines;
  results = rw (length-replicate {A = ℕ} max_lines 0) s.few_lines;
}

module _ (constraint answer : List ℕ) where
  room_for : (f : File) → SoundFile f → checking_for f answer (room_of own) ≡ read_answer f.variables answer
  unfolding checking_for
  room_for f s = rw (← (room_accepted f (room_of own) (own_room f s))) (again (read_answer f.variables answer))

  room_where : (r : Reply File) → read_file constraint ≡ r → checking constraint answer (room_of own) ≡ answering constraint answer
  unfolding checking answering
  room_where (Ok f) e = rw (e, room_for f (accepted_is_sound constraint f e))
  room_where (Err x) e = rw e

  room : checking constraint answer (room_of own) ≡ answering constraint answer
  room = room_where (read_file constraint) refl

-- ---- what a check leaves, by whether it was accepted
module _ (t out : Tables) where
  -- with a verdict: on m lines, and theirs stand in front
  module _ (o : Overall) (m : ℕ) where
    tallied_where : (c : Reply (File × List ℕ)) → ((f : File) (row : List ℕ) → c ≡ Ok (f, row) → m ≡ length f.lines) → ◌≡◌ {A = CheckOutcome} (record { reply = Ok o; tables = out }) (checked t c) → (m ≤ length out.verdicts) × (Ok (record { overall = o; tally = tally_of (take m out.verdicts) }) ≡ reported c)
    tallied_where (Ok (f, row)) n e =
        let fresh = fresh_verdicts f row in
        let behind = drop (length f.lines) t.verdicts in
        let q : Ok o ≡ Ok (overall_of fresh) = ap (λ y. y.reply) e in
        let a : o ≡ overall_of fresh = cc q in
        let b : out.verdicts ≡ fresh ++ behind = ap (λ y. y.tables.verdicts) e in
        let l : length fresh ≡ m = column_length (λ j. verdict_byte j.verdict) f.variables row f.lines ∙ sym (n f row refl) in
        (omega (arith, ap length b ∙ length-append fresh behind), rw (a, b, take_at fresh behind m l))
    tallied_where (Err x) n e = let q : Ok o ≡ Err x = ap (λ y. y.reply) e in never (cc q)

  -- with a refusal
  refused_where : (r : Refusal) (c : Reply (File × List ℕ)) → ◌≡◌ {A = CheckOutcome} (record { reply = Err r; tables = out }) (checked t c) → Err r ≡ reported c
  refused_where r (Ok (f, row)) e = let q : Err r ≡ Ok (overall_of (fresh_verdicts f row)) = ap (λ y. y.reply) e in never (cc q)
  refused_where r (Err x) e = let q : Err r ≡ Err x = ap (λ y. y.reply) e in cc q

-- ---- the report
module _ (constraint answer out vs rs : List ℕ) where
  abbrev CheckIs : Reply Overall → Type 0
  CheckIs reply = ◌≡◌ {A = CheckOutcome} (record { reply = reply; tables = tables_of out vs rs }) (check_outcome constraint answer own)

  -- the verdicts that are counted are there, and counted
  pub report_tallied : (o : Overall) (m : ℕ) → CheckIs (Ok o) → CountsLines constraint (Ok (o, m)) → (m ≤ length vs) × (Ok (record { overall = o; tally = tally_of (take m vs) }) ≡ report_outcome constraint answer)
  report_tallied o m e n =
      let p = tallied_where own (tables_of out vs rs) o m (checking constraint answer (room_of own)) (λ f row q. n f (checking_steps constraint answer (room_of own) f row q).file) e in
      (p.0, p.1 ∙ ap reported (room constraint answer))

  pub report_refused : (r : Refusal) → CheckIs (Err r) → Err r ≡ report_outcome constraint answer
  report_refused r e = refused_where own (tables_of out vs rs) r (checking constraint answer (room_of own)) e ∙ ap reported (room constraint answer)
