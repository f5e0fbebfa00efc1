-- The text of a refusal.
use Rattle.std.specs.Prelude.{ℕ, List, ◌++◌}
use Rattle.refusal.specs.declared.Refusal.{Refusal}
use Rattle.refusal.specs.Fault.{number_of}
use Rattle.refusal.specs.SubjectWords.{ascii, subject_word}
use Rattle.printing.specs.Digits.{counted}

-- as in `refused 15 constraint 32`: its number, what it speaks of, and the position there
unfoldable pub refusal_text : Refusal → List ℕ
refusal_text r = counted (ascii "refused ") (number_of r.fault) ++ ascii " " ++ subject_word r.subject ++ counted (ascii " ") r.position
