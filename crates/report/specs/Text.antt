-- The text of a report.
use Rattle.std.specs.Prelude.{ℕ, List, ◌++◌}
use Rattle.refusal.specs.Result.{Reply, Ok, Err}
use Rattle.refusal.specs.SubjectWords.{ascii}
use Rattle.judge.specs.declared.Overall.{Overall}
use Rattle.judge.specs.declared.Overall.TheVariants.{Satisfied, Violated, Disregarded}
use Rattle.tables.specs.declared.Tally.{Tally}
use Rattle.tables.specs.declared.Report.{Report}
use Rattle.printing.specs.Digits.{counted}
use Rattle.printing.specs.RefusalText.{refusal_text}

-- the overall verdict; violated and disregarded name the first such line
unfoldable pub overall_text : Overall → List ℕ
overall_text Satisfied = ascii "satisfied"
overall_text (Violated n) = counted (ascii "violated ") n
overall_text (Disregarded n) = counted (ascii "disregarded ") n

-- how many lines there are, and how many of each verdict
unfoldable pub tally_text : Tally → List ℕ
tally_text t =
    counted (ascii "lines ") t.lines
    ++ counted (ascii " held ") t.held
    ++ counted (ascii " violated ") t.violated
    ++ counted (ascii " disregarded ") t.disregarded

-- two lines; or the one line of a refusal
unfoldable pub report_text : Reply Report → List ℕ
report_text (Ok report) = overall_text report.overall ++ ascii "\n" ++ tally_text report.tally ++ ascii "\n"
report_text (Err r) = refusal_text r ++ ascii "\n"
