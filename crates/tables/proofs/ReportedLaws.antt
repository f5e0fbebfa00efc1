-- The report says satisfied exactly where the conditions of the demand hold. Assumes nothing.
use Prim.Native.Nat.{ℕ}
use mathlib.Core.Path.{◌≡◌, refl, ap}
use mathlib.Core.List.{List}
use Rattle.refusal.specs.Result.{Reply, Ok, Err}
use Rattle.refusal.proofs.ResultLaws.{never, Yields, yields_accepted, yields_bind, yields_itself}
use Rattle.constraint.specs.File.{File}
use Rattle.constraint.specs.Read.{read_file}
use Rattle.constraint.proofs.SoundLaws.{accepted_is_sound}
use Rattle.judge.specs.declared.Overall.TheVariants.{Satisfied}
use Rattle.judge.specs.Judge.{fresh_verdicts, overall_of}
use Rattle.answer.specs.Read.{read_answer}
use Rattle.tables.specs.declared.Tally.{Tally}
use Rattle.tables.specs.declared.Report.{Report}
use Rattle.tables.specs.Report.{answering, tally_of, reported, report_outcome}
use Rattle.tables.specs.Claims.{Satisfies, any_room, ReportedExactly}
use Rattle.tables.proofs.CheckingLaws.{Steps}
use Rattle.tables.proofs.SatisfiedLaws.{steps_satisfy, satisfies_steps, satisfies_overall}

module _ (constraint answer : List ℕ) where
  -- the steps of a report, in tables with room for any file
  answering_yields : Yields (λ p. Steps constraint answer any_room p.0 p.1) (answering constraint answer)
  unfolding answering
  answering_yields =
      yields_bind (yields_itself (read_file constraint)) λ f a.
      yields_bind (yields_itself (read_answer f.variables answer)) λ row b.
      let sound = accepted_is_sound constraint f a in
      yields_accepted (record { file = a; answered = b; has_room = record { values = sound.few_variables; verdicts = sound.few_lines; results = sound.few_lines } })

  steps_answering : (f : File) (row : List ℕ) → Steps constraint answer any_room f row → answering constraint answer ≡ Ok (f, row)
  unfolding answering
  steps_answering f row s = rw (s.file, s.answered)

  -- what is reported as satisfied meets the conditions
  reported_satisfies : (r : Reply (File × List ℕ)) → answering constraint answer ≡ r → (t : Tally) → reported r ≡ Ok (record { overall = Satisfied; tally = t }) → Satisfies constraint answer any_room
  reported_satisfies (Ok (f, row)) e t q =
      let vs = fresh_verdicts f row in
      let report : Report = record { overall = overall_of vs; tally = tally_of vs } in
      let satisfied : Report = record { overall = Satisfied; tally = t } in
      let same : report ≡ satisfied = cc q in
      steps_satisfy constraint answer any_room f row (answering_yields.holds (f, row) e) (ap (λ r. r.overall) same)
  reported_satisfies (Err x) e t q = never (cc q)

  -- what meets the conditions is reported as satisfied
  satisfies_reported : Satisfies constraint answer any_room → (t : Tally) × (report_outcome constraint answer ≡ Ok (record { overall = Satisfied; tally = t }))
  satisfies_reported s =
      let t = tally_of (fresh_verdicts s.file s.row) in
      (t, rw (steps_answering s.file s.row (satisfies_steps constraint answer any_room s)) (rw (satisfies_overall constraint answer any_room s)))

pub reported_exactly : ReportedExactly
reported_exactly constraint answer = (λ p. reported_satisfies constraint answer (answering constraint answer) refl p.0 p.1, satisfies_reported constraint answer)
