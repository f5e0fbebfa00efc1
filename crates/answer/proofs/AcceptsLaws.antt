-- The reader accepts exactly the answers that the claim describes. Assumes nothing.
use Prim.Native.Nat.{ℕ}
use Prim.Native.Char.{code}
use mathlib.Core.Path.{◌≡◌}
use mathlib.Core.List.{List, map}
use Rattle.std.specs.Prelude.{None, Some}
use lib.Dec.{leb}
use lib.ListN.{length, replicate}
use borrow.Author.Tests.{leb-true, le-leb}
use Rattle.edition.specs.declared.Edition.{Edition}
use Rattle.edition.specs.Edition.{max_file_bytes}
use Rattle.refusal.specs.declared.Subject.TheVariants.{Answer}
use Rattle.refusal.specs.Result.{Ok}
use Rattle.text.specs.Lines.{text_lines}
use Rattle.text.specs.Reading.{read_text}
use Rattle.constraint.specs.File.{Variable}
use Rattle.constraint.specs.Sound.{Each, SoundVariable, Distinct}
use Rattle.answer.specs.Read.{no_settings, read_answer_line, all_set, read_answer}
use Rattle.answer.specs.Claims.{letters, tokens_of, values_of, Sets, AcceptsExactly}
use Rattle.refusal.proofs.ResultLaws.{bind_accepted, ensure_accepted, given_accepted}
use Rattle.answer.proofs.SettingsListLaws.{values_in}
use Rattle.answer.proofs.OnceLaws.{all_set_is, all_set_row, once_is, once_accepted}
use Rattle.answer.proofs.AcceptedLinesLaws.{tokens_in, lines_are, lines_accepted}

module _ (e : Edition) (xs : List Variable) (answer row : List ℕ) (sound : Each (SoundVariable e) xs) (distinct : Distinct xs) where
  -- what is accepted is as the claim says
  answer_is : read_answer xs answer ≡ Ok row → Sets xs answer row
  unfolding read_answer read_text letters tokens_of values_of tokens_in values_in
  answer_is q =
      let p = bind_accepted (read_text Answer (read_answer_line xs) (no_settings xs) answer) _ row q in
      let s = p.0 in
      let t = ensure_accepted (leb (length answer) max_file_bytes) _ _ s p.1 in
      let d = ensure_accepted s.solved _ _ row p.2 in
      let v = all_set_is s.values row (given_accepted (all_set s.values) _ row d.1) in
      let w = lines_are xs (text_lines answer) (replicate (length xs) None) s t.1 d.0 in
      let h = once_is e xs sound distinct row (tokens_of (code "v") answer) (rw v at w.sets) in
      record {
        short = leb-true (length answer) max_file_bytes t.0;
        allowed = w.allowed;
        more = w.more;
        in_order = w.in_order;
        says_satisfiable = w.says;
        no_other = h.no_other;
        one_for_each = h.one_for_each;
        once = h.once;
      }

  -- what is as the claim says is accepted
  answer_accepted : Sets xs answer row → read_answer xs answer ≡ Ok row
  unfolding read_answer read_text letters tokens_of values_of tokens_in values_in
  answer_accepted h =
      let sets = once_accepted e xs sound distinct row (tokens_of (code "v") answer) (record { no_other = h.no_other; one_for_each = h.one_for_each; once = h.once }) in
      let read = lines_accepted xs (text_lines answer) (replicate (length xs) None) (map Some row) (record { allowed = h.allowed; more = h.more; in_order = h.in_order; says = h.says_satisfiable; sets = sets }) in
      rw (le-leb (length answer) max_file_bytes h.short, read, all_set_row row)

pub accepts_exactly : AcceptsExactly
accepts_exactly e xs answer row sound distinct = (answer_is e xs answer row sound distinct, answer_accepted e xs answer row sound distinct)
