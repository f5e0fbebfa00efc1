-- The number that a C program gets: 0 exactly where the answer satisfies the file, and one of those that are listed; the kind of a word likewise. Assumes nothing.
use Prim.Native.Nat.{ℕ}
use mathlib.Core.Path.{◌≡◌, refl, ap, sym, ◌∙◌}
use mathlib.Core.List.{List}
use native.Mathlib.Omega.{arith}
use Rattle.refusal.specs.Result.{Reply, Ok, Err}
use Rattle.refusal.proofs.RefusesLaws.{Refuses, refuses_accepted, refuses_bind}
use Rattle.constraint.specs.File.{File}
use Rattle.judge.specs.declared.Overall.{Overall}
use Rattle.judge.specs.declared.Overall.TheVariants.{Satisfied, Violated, Disregarded}
use Rattle.judge.specs.Judge.{fresh_verdicts, overall_of, overall_number}
use Rattle.tables.specs.declared.Tally.{Tally}
use Rattle.tables.specs.declared.Report.{Report}
use Rattle.tables.specs.Report.{answering, reported, report_outcome}
use Rattle.tables.specs.Check.{check_outcome}
use Rattle.tables.proofs.SatisfiedLaws.{satisfied_exactly}
use Rattle.tables.proofs.ReportedLaws.{reported_exactly}
use Rattle.spear.specs.Code.{code_of, ZeroExactly, IsCode, of_verdict, of_refusal, CodesAre}
use Rattle.spear.specs.Pack.{verdict_word, pack_check, kind_in, check_in, KindZeroExactly}
use Rattle.spear.proofs.KeptLaws.{check_kept}
use Rattle.spear.proofs.PackLaws.{overall_small}
use Rattle.spear.proofs.FileNumberLaws.{FileNumber, file_numbered, answer_numbered}

-- ---- 0 is satisfied
zero_satisfied : (o : Overall) → overall_number o ≡ 0 → o ≡ Satisfied
zero_satisfied Satisfied e = refl
zero_satisfied (Violated n) e = let z : ⊥ = omega arith in absurd z
zero_satisfied (Disregarded n) e = let z : ⊥ = omega arith in absurd z

zero_reported : (r : Reply Report) → code_of r ≡ 0 → (t : Tally) × (r ≡ Ok (record { overall = Satisfied; tally = t }))
zero_reported (Ok report) e = (report.tally, ap (λ o. Ok (record { overall = o; tally = report.tally })) (zero_satisfied report.overall e))
zero_reported (Err x) e = let z : ⊥ = omega arith in absurd z

pub zero_exactly : ZeroExactly
zero_exactly constraint answer =
    let both = reported_exactly constraint answer in
    (λ e. both.0 (zero_reported (report_outcome constraint answer) e), λ s. ap code_of (both.1 s).1)

-- ---- so is the kind 0
zero_kind : (word : ℕ) → kind_in word ≡ 0 → check_in word ≡ Ok Satisfied
zero_kind word e = rw e

pub kind_zero_exactly : KindZeroExactly
unfolding verdict_word
kind_zero_exactly constraint answer t =
    let both = satisfied_exactly constraint answer t in
    (λ e. both.0 (sym (check_kept constraint answer t) ∙ zero_kind (pack_check (check_outcome constraint answer t).reply) e), λ s. ap (λ r. kind_in (pack_check r)) (both.1 s))

-- ---- no other number
module _ (constraint answer : List ℕ) where
  answering_numbered : Refuses FileNumber (answering constraint answer)
  unfolding answering
  answering_numbered =
      refuses_bind (file_numbered constraint) λ f.
      refuses_bind (answer_numbered f.variables answer) λ row.
      refuses_accepted

  code_is : (r : Reply (File × List ℕ)) → answering constraint answer ≡ r → IsCode (code_of (reported r))
  code_is (Ok (f, row)) e = let s = overall_small (overall_of (fresh_verdicts f row)) in of_verdict (omega arith)
  code_is (Err x) e = let h = answering_numbered.holds x e in of_refusal (omega (arith, h.least)) (omega (arith, h.most))

pub codes_are : CodesAre
codes_are constraint answer = code_is constraint answer (answering constraint answer) refl
