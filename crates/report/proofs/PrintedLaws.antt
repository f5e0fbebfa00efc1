-- The report's text says satisfied exactly where the report does. Assumes nothing.
use Prim.Native.Nat.{ℕ}
use mathlib.Core.Path.{◌≡◌, refl, ap}
use mathlib.Core.List.{List, ◌++◌, head-eq_of_cons-eq}
use native.Mathlib.Omega.{arith}
use Rattle.refusal.specs.Result.{Reply, Ok, Err}
use Rattle.refusal.specs.SubjectWords.{ascii}
use Rattle.printing.specs.RefusalText.{refusal_text}
use Rattle.judge.specs.declared.Overall.{Overall}
use Rattle.judge.specs.declared.Overall.TheVariants.{Satisfied, Violated, Disregarded}
use Rattle.tables.specs.declared.Tally.{Tally}
use Rattle.tables.specs.declared.Report.{Report}
use Rattle.tables.specs.Report.{report_outcome}
use Rattle.tables.proofs.ReportedLaws.{reported_exactly}
use Rattle.report.specs.Text.{overall_text, tally_text, report_text}
use Rattle.report.specs.Claims.{PrintedExactly}

-- every other text starts with another letter
satisfied_by : (o : Overall) (t : Tally) (rest : List ℕ) → report_text (Ok (record { overall = o; tally = t })) ≡ ascii "satisfied\n" ++ rest → o ≡ Satisfied
unfolding report_text overall_text refusal_text
satisfied_by Satisfied t rest e = refl
satisfied_by (Violated n) t rest e = let z : ⊥ = omega (arith, head-eq_of_cons-eq e) in absurd z
satisfied_by (Disregarded n) t rest e = let z : ⊥ = omega (arith, head-eq_of_cons-eq e) in absurd z

satisfied_only : (r : Reply Report) (rest : List ℕ) → report_text r ≡ ascii "satisfied\n" ++ rest → (t : Tally) × (r ≡ Ok (record { overall = Satisfied; tally = t }))
unfolding report_text refusal_text
satisfied_only (Ok report) rest e = (report.tally, ap (λ o. Ok (record { overall = o; tally = report.tally })) (satisfied_by report.overall report.tally rest e))
satisfied_only (Err r) rest e = let z : ⊥ = omega (arith, head-eq_of_cons-eq e) in absurd z

pub printed_exactly : PrintedExactly
unfolding report_text overall_text
printed_exactly constraint answer =
    let both = reported_exactly constraint answer in (
      λ p. both.0 (satisfied_only (report_outcome constraint answer) p.0 p.1),
      λ s. let p = both.1 s in (tally_text p.0 ++ ascii "\n", ap report_text p.1),
    )
