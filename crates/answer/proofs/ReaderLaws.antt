-- Reading an answer line by line. Assumes nothing.
use Prim.Native.Nat.{ℕ, ◌≤◌, ◌<◌}
use mathlib.Core.Path.{◌≡◌, sym, ap, ◌∙◌}
use mathlib.Core.Bool.{true, false}
use mathlib.Core.List.{List}
use Rattle.std.specs.Prelude.{None, Some}
use lib.ListN.{length, take, replicate}
use Rattle.std.proofs.lemmas.List.{take-replicate}
use Rattle.edition.specs.Edition.{max_file_bytes}
use Rattle.refusal.specs.declared.Refusal.{Refusal}
use Rattle.refusal.specs.declared.Subject.TheVariants.{Answer}
use Rattle.refusal.specs.declared.Fault.TheVariants.{FileTooLong, MisplacedLine, NotSet}
use Rattle.refusal.specs.Result.{Ok, Err, refusal}
use Rattle.text.specs.Lines.{TextLine, text_lines}
use Rattle.text.specs.Reading.{read_lines}
use Rattle.text.proofs.ReadingLaws.{text_long, text_lines_lem}
use Rattle.constraint.specs.File.{Variable}
use Rattle.store.specs.Tables.{variables_in}
use Rattle.store.proofs.LookupLaws.{variables_length}
use Rattle.answer.specs.declared.AnswerLine.{AnswerLine}
use Rattle.answer.specs.Read.{Settings, settings_of, no_settings, answer_kind, read_answer_as, read_answer_line, all_set, read_answer}

-- a line is read by its kind
pub of_kind : (k : AnswerLine) (xs : List Variable) (s : Settings) (l : TextLine) {r : AnswerLine} → r ≡ answer_kind l.bytes → r ≡ k → read_answer_as k xs s l ≡ read_answer_line xs s l
unfolding read_answer_line
of_kind k xs s l e d = ap (λ x. read_answer_as x xs s l) (sym d ∙ e)

-- at first nothing is set
pub nothing_set : (file variables : List ℕ) (m n : ℕ) → n ≤ m → settings_of false (take n (replicate m None)) ≡ no_settings (variables_in file variables n)
nothing_set file variables m n h = rw (variables_length file variables n) (ap (settings_of false) (take-replicate n m None h))

-- ---- the whole answer
module _ (xs : List Variable) (bytes : List ℕ) where
  pub answer_long : max_file_bytes < length bytes → Err (refusal Answer FileTooLong max_file_bytes) ≡ read_answer xs bytes
  unfolding read_answer
  answer_long h = rw (← text_long Answer (read_answer_line xs) (no_settings xs) bytes h)

  module _ (h : length bytes ≤ max_file_bytes) where
    pub answer_refused : (r : Refusal) → Err r ≡ read_lines Answer (read_answer_line xs) (no_settings xs) (text_lines bytes) → Err r ≡ read_answer xs bytes
    unfolding read_answer
    answer_refused r e = rw (← text_lines_lem Answer (read_answer_line xs) (no_settings xs) bytes h, ← e)

    module _ (s : Settings) (e : Ok s ≡ read_lines Answer (read_answer_line xs) (no_settings xs) (text_lines bytes)) where
      pub answer_unsolved : s.solved ≡ false → Err (refusal Answer MisplacedLine (length bytes)) ≡ read_answer xs bytes
      unfolding read_answer
      answer_unsolved f = rw (← text_lines_lem Answer (read_answer_line xs) (no_settings xs) bytes h, ← e, f)

      module _ (f : s.solved ≡ true) where
        pub answer_unset : all_set s.values ≡ None → Err (refusal Answer NotSet (length bytes)) ≡ read_answer xs bytes
        unfolding read_answer
        answer_unset g = rw (← text_lines_lem Answer (read_answer_line xs) (no_settings xs) bytes h, ← e, f, g)

        pub answer_read : (row : List ℕ) → all_set s.values ≡ Some row → Ok row ≡ read_answer xs bytes
        unfolding read_answer
        answer_read row g = rw (← text_lines_lem Answer (read_answer_line xs) (no_settings xs) bytes h, ← e, f, g)
