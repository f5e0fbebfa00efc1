-- What the call that writes a report answers, and what it leaves in the room.
use Rattle.std.specs.Prelude.{ℕ, List, ◌++◌, length, drop}
use Rattle.refusal.specs.Result.{Reply}
use Rattle.tables.specs.declared.Report.{Report}
use Rattle.report.specs.Text.{report_text}

-- the length of the text, and the room at exit
pub record WrittenReport : Type 0 where
  pub end : ℕ
  pub room : List ℕ

-- WRITE A REPORT or a refusal: the contract of the call. The text stands in front of what was behind it
abbrev pub report_written : List ℕ → Reply Report → WrittenReport
report_written room reply = record { end = length (report_text reply); room = report_text reply ++ drop (length (report_text reply)) room }
