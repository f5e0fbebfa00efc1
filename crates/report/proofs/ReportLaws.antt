-- The text of a report: its length, and its pieces put one behind another. Assumes nothing.
use Prim.Native.Nat.{ℕ, ◌+◌, ◌*◌, ◌≤◌}
use mathlib.Core.Path.{◌≡◌, refl, ap}
use mathlib.Core.List.{List}
use native.Mathlib.Nat.{zero-add}
use native.Mathlib.Omega.{arith}
use lib.ListN.{length, drop, length-append}
use Rattle.refusal.specs.declared.Refusal.{Refusal}
use Rattle.refusal.specs.Result.{Reply, Ok, Err}
use Rattle.refusal.specs.SubjectWords.{ascii}
use Rattle.judge.specs.declared.Overall.{Overall}
use Rattle.judge.specs.declared.Overall.TheVariants.{Satisfied, Violated, Disregarded}
use Rattle.tables.specs.declared.Tally.{Tally}
use Rattle.tables.specs.declared.Report.{Report}
use Rattle.text.specs.Spelling.{max_digits}
use Rattle.printing.specs.Digits.{digits, counted}
use Rattle.printing.specs.Room.{Put}
use Rattle.printing.specs.RefusalText.{refusal_text}
use Rattle.printing.proofs.PlaceLaws.{put_then, placed_front}
use Rattle.printing.proofs.DigitLaws.{digits_count}
use Rattle.printing.proofs.RefusalLaws.{refusal_bound}
use Rattle.report.specs.Text.{overall_text, tally_text, report_text}
use Rattle.report.specs.Write.{WrittenReport, report_written}

-- ---- the overall verdict
pub overall_bound : (o : Overall) → length (overall_text o) ≤ 12 + max_digits
unfolding overall_text
overall_bound Satisfied = omega arith
overall_bound (Violated n) = omega (arith, digits_count n)
overall_bound (Disregarded n) = omega (arith, digits_count n)

-- ---- the tally
module _ (t : Tally) where
  pub tally_length : length (tally_text t) ≡ 35 + length (digits t.lines) + length (digits t.held) + length (digits t.violated) + length (digits t.disregarded)
  unfolding tally_text
  tally_length = simp length-append (omega arith)

  tally_bound : length (tally_text t) ≤ 35 + 4 * max_digits
  tally_bound = omega (arith, tally_length, digits_count t.lines, digits_count t.held, digits_count t.violated, digits_count t.disregarded)

  pub put_tally : {room : List ℕ} {at : ℕ} → at + length (tally_text t) ≤ length room
      → {end₁ end₂ end₃ end₄ : ℕ} {room₁ room₂ room₃ room₄ : List ℕ}
      → Put (counted (ascii "lines ") t.lines) room at end₁ room₁ → Put (counted (ascii " held ") t.held) room₁ end₁ end₂ room₂ → Put (counted (ascii " violated ") t.violated) room₂ end₂ end₃ room₃ → Put (counted (ascii " disregarded ") t.disregarded) room₃ end₃ end₄ room₄
      → Put (tally_text t) room at end₄ room₄
  unfolding tally_text
  put_tally h p q r s =
      let l = tally_length in
      put_then h (put_then (simp length-append (omega arith)) (put_then (simp length-append (omega arith)) p q) r) s

-- ---- two lines
module _ (r : Report) where
  pub report_length : length (report_text (Ok r)) ≡ length (overall_text r.overall) + 1 + length (tally_text r.tally) + 1
  unfolding report_text
  report_length = simp length-append (omega arith)

  pub put_report : {room : List ℕ} → length (report_text (Ok r)) ≤ length room
      → {end₁ end₂ end₃ end₄ : ℕ} {room₁ room₂ room₃ room₄ : List ℕ}
      → Put (overall_text r.overall) room 0 end₁ room₁ → Put (ascii "\n") room₁ end₁ end₂ room₂ → Put (tally_text r.tally) room₂ end₂ end₃ room₃ → Put (ascii "\n") room₃ end₃ end₄ room₄
      → Put (report_text (Ok r)) room 0 end₄ room₄
  unfolding report_text
  put_report h p q t s =
      let l = report_length in
      put_then (omega arith) (put_then (simp length-append (omega arith)) (put_then (simp length-append (omega arith)) p q) t) s

-- ---- the one line of a refusal
module _ (x : Refusal) where
  pub refused_length : length (report_text (Err x)) ≡ length (refusal_text x) + 1
  unfolding report_text
  refused_length = length-append (refusal_text x) (ascii "\n")

  pub put_refused : {room : List ℕ} → length (report_text (Err x)) ≤ length room
      → {end₁ end₂ : ℕ} {room₁ room₂ : List ℕ}
      → Put (refusal_text x) room 0 end₁ room₁ → Put (ascii "\n") room₁ end₁ end₂ room₂
      → Put (report_text (Err x)) room 0 end₂ room₂
  unfolding report_text
  put_refused h p q = put_then (omega arith) p q

-- ---- any report: there is room for it, and what a call that wrote it answers
abbrev max_report_bytes : ℕ
max_report_bytes = 49 + 5 * max_digits

report_bound : (r : Reply Report) → length (report_text r) ≤ max_report_bytes
report_bound (Ok r) = omega (arith, report_length r, overall_bound r.overall, tally_bound r.tally)
report_bound (Err x) = omega (arith, refused_length x, refusal_bound x)

pub report_fits : (r : Reply Report) (room : ℕ) → room ≡ max_report_bytes → length (report_text r) ≤ room
report_fits r room e = omega (arith, report_bound r)

pub report_written_lem : (r : Reply Report) {room : List ℕ} {end : ℕ} {room' : List ℕ} → Put (report_text r) room 0 end room' → record { end = end; room = room' } ≡ report_written room r
report_written_lem r p = rw (p.ends, p.holds, zero-add, placed_front) refl

pub written_within : (r : Reply Report) (room : List ℕ) {end : ℕ} {room' : List ℕ} → record { end = end; room = room' } ≡ report_written room r → end ≤ length room'
written_within r room e =
    let ends = ap (λ (w : WrittenReport). w.end) e in
    let holds = ap (λ (w : WrittenReport). length w.room) e in
    omega (arith, ends, holds, length-append (report_text r) (drop (length (report_text r)) room))
