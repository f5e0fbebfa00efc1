-- The check, by what its steps answer. Assumes nothing.
use Prim.Native.Nat.{ℕ, ◌<◌, ◌≤◌}
use mathlib.Core.Path.{◌≡◌, sym, ap, ◌∙◌}
use mathlib.Core.List.{List, ◌++◌}
use lib.ListN.{length, take, drop}
use lib.Seq.{take_at}
use Rattle.refusal.specs.declared.Refusal.{Refusal}
use Rattle.refusal.specs.Result.{Ok, Err}
use Rattle.store.specs.declared.Progress.{Progress}
use Rattle.constraint.specs.File.{File, edition_of}
use Rattle.constraint.specs.Read.{read_file}
use Rattle.store.specs.Tables.{Store, variables_in}
use Rattle.store.specs.Progress.{stored_file, HeadsInUseFit}
use Rattle.store.proofs.LineTableLaws.{lines_length}
use Rattle.store.proofs.LookupLaws.{variables_length}
use Rattle.constraint.proofs.SoundLaws.{accepted_is_sound}
use Rattle.judge.specs.Judge.{verdict_byte, fresh_verdicts, fresh_results, overall_of}
use Rattle.judge.specs.InUse.{Tables, tables_of, Room, tables_room}
use Rattle.judge.specs.Fitting.{Judgeable}
use Rattle.judge.proofs.RoomLaws.{accepted_room}
use Rattle.judge.proofs.VerdictLaws.{column_length}
use Rattle.judge.proofs.HeldLaws.{lines_fit}
use Rattle.answer.specs.Read.{read_answer}
use Rattle.answer.proofs.FitLaws.{row_fits_answer}
use Rattle.tables.specs.Check.{checking_for, checking, CheckOutcome, checked}

module _ (constraint answer : List ℕ) (lent : Room) where
  -- the constraint file is refused
  pub refused_constraint : (r : Refusal) → Err r ≡ read_file constraint → Err r ≡ checking constraint answer lent
  unfolding checking
  refused_constraint r e = rw (← e)

  -- a file was read
  module _ (f : File) (e : Ok f ≡ read_file constraint) where
    -- the answer is refused
    pub refused_answer : (r : Refusal) → Err r ≡ read_answer f.variables answer → Err r ≡ checking constraint answer lent
    unfolding checking checking_for
    refused_answer r a = rw (← e, ← a)

    -- a row was read
    module _ (row : List ℕ) (a : Ok row ≡ read_answer f.variables answer) where
      pub refused_room : (r : Refusal) → Err r ≡ tables_room f lent → Err r ≡ checking constraint answer lent
      unfolding checking checking_for
      refused_room r h = rw (← e, ← a, ← h)

      pub checked_row : Ok tt ≡ tables_room f lent → Ok (f, row) ≡ checking constraint answer lent
      unfolding checking checking_for
      checked_row h = rw (← e, ← a, ← h)

-- the tables that hold a file
module _ (bytes : List ℕ) (t : Store) (p : Progress) where
  pub variables_held : length (stored_file bytes t p).variables ≡ p.variables
  variables_held = variables_length bytes t.variables p.variables

  pub lines_held : length (stored_file bytes t p).lines ≡ p.lines
  lines_held = lines_length t.heads t.bodies p.lines

  -- tables that were tested have room for what is in use
  pub room_held : (lent : Room) → Ok tt ≡ tables_room (stored_file bytes t p) lent → (p.variables ≤ lent.values) × (p.lines ≤ lent.verdicts) × (p.lines ≤ lent.results)
  room_held lent e =
      let h = accepted_room (stored_file bytes t p) lent (sym e) in
      (rw variables_held at h.values, rw lines_held at h.verdicts, rw lines_held at h.results)

  -- it was accepted
  module _ (e : Ok (stored_file bytes t p) ≡ read_file bytes) where
    -- each line can be judged under the row of an accepted answer
    pub answer_fits_lines : HeadsInUseFit bytes t p → (answer row : List ℕ) → Ok row ≡ read_answer (variables_in bytes t.variables p.variables) answer → (k : ℕ) → k < p.lines → Judgeable row t.heads t.bodies k
    answer_fits_lines fit answer row a =
        let f = stored_file bytes t p in
        let s = accepted_is_sound bytes f (sym e) in
        lines_fit bytes t p row e fit (row_fits_answer (edition_of f) f.variables answer row s.variables s.distinct (sym a))

    -- the number of lines is the file's
    pub counts_lines : (f : File) → read_file bytes ≡ Ok f → p.lines ≡ length f.lines
    counts_lines f q =
        let z : Ok (stored_file bytes t p) ≡ Ok f = e ∙ q in
        let y : stored_file bytes t p ≡ f = cc z in
        sym lines_held ∙ ap (λ g. length g.lines) y

-- the entries in use, filled, and those behind them as they were
module _ (t : Tables) (f : File) (row : List ℕ) (n m : ℕ) (l : length f.variables ≡ n) (k : length f.lines ≡ m) where
  pub tables_filled : (out vs rs : List ℕ) → out ≡ row ++ drop n t.values → vs ≡ fresh_verdicts f row ++ drop m t.verdicts → rs ≡ fresh_results f row ++ drop m t.results
      → ◌≡◌ {A = CheckOutcome} (record { reply = Ok (overall_of (take m vs)); tables = tables_of out vs rs }) (checked t (Ok (f, row)))
  tables_filled out vs rs a b c =
      rw (a, b, c, l, k, take_at (fresh_verdicts f row) (drop m t.verdicts) m (column_length (λ j. verdict_byte j.verdict) f.variables row f.lines ∙ k))
