-- A run of changes: each finds the fresh tables of a row, answers as the model does, and leaves the fresh tables of the model's row. Assumes nothing.
use Prim.Native.Nat.{ℕ, suc}
use mathlib.Core.Path.{◌≡◌, refl, sym, ap, ap₂, ◌∙◌}
use mathlib.Core.List.{List, [], ◌∷◌, ◌++◌, map}
use lib.ListN.{length, drop, set, length-set}
use lib.Seq.{length-take-le}
use Rattle.refusal.specs.Result.{Reply, Ok, Err, ◌>>◌}
use Rattle.constraint.specs.File.{File}
use Rattle.constraint.specs.Read.{read_file}
use Rattle.constraint.specs.Sound.{Each}
use Rattle.judge.specs.Judge.{verdict_byte, fresh_verdicts, fresh_results}
use Rattle.judge.specs.InUse.{Tables, in_use, fresh_tables, room_of, values_fit, verdicts_fit}
use Rattle.judge.specs.Claims.{RowFits}
use Rattle.judge.proofs.FitLaws.{unfit_none}
use Rattle.judge.proofs.VerdictLaws.{column_length}
use Rattle.index.specs.AnyIndex.{index_fits}
use Rattle.index.proofs.OwnIndexLaws.{index_fits_lem, concerned_naming}
use Rattle.moves.specs.declared.Effect.{Effect}
use Rattle.moves.specs.Step.{step, effect}
use Rattle.moves.specs.Gate.{entitled, admitted}
use Rattle.moves.specs.Change.{Outcome, made, changed, change_for, change_outcome}
use Rattle.moves.specs.Run.{Turn, fronts, put_back, turn_outcome, outcomes, tables_after, the_change, ModelOutcome, modelled, model_outcome, model_replies, model_row}
use Rattle.moves.specs.WholeRun.{OfRun}
use Rattle.moves.proofs.ColumnLaws.{column_lent, column_put, column_back, columns_long}
use Rattle.moves.proofs.FreshLaws.{step_fresh, none_above}
use Rattle.moves.proofs.GateLaws.{Entitled, entitled_passed}
use Rattle.moves.proofs.ChangeLaws.{fits_set}

-- the state between two turns: a row in front of the values, its fresh verdicts and results in front of the others; behind them what stood there at the start
pub record State (f : File) (row : List ℕ) (base t : Tables) : Type 0 where
  pub long : length row ≡ length f.variables
  pub fits : RowFits f.variables row
  pub values_are : t.values ≡ row ++ drop (length f.variables) base.values
  pub verdicts_are : t.verdicts ≡ fresh_verdicts f row ++ drop (length f.lines) base.verdicts
  pub results_are : t.results ≡ fresh_results f row ++ drop (length f.lines) base.results

pub verdicts_many : (f : File) (row : List ℕ) → length (fresh_verdicts f row) ≡ length f.lines
verdicts_many f row = column_length (λ j. verdict_byte j.verdict) f.variables row f.lines

pub results_many : (f : File) (row : List ℕ) → length (fresh_results f row) ≡ length f.lines
results_many f row = column_length (λ j. j.result) f.variables row f.lines

-- what a turn is lent of one state it is lent of another
of_state : (f : File) (row row' : List ℕ) (base t t' : Tables) → State f row base t → State f row' base t' → (u : Turn) → OfRun f t u → OfRun f t' u
of_state f row row' base t t' s s' u o =
    let n = length f.variables in
    let m = length f.lines in
    record {
      within = record {
        values = rw (columns_long row row' (drop n base.values) t.values t'.values (s.long ∙ sym s'.long) s.values_are s'.values_are) at o.within.values;
        verdicts = rw (columns_long (fresh_verdicts f row) (fresh_verdicts f row') (drop m base.verdicts) t.verdicts t'.verdicts (verdicts_many f row ∙ sym (verdicts_many f row')) s.verdicts_are s'.verdicts_are) at o.within.verdicts;
        results = rw (columns_long (fresh_results f row) (fresh_results f row') (drop m base.results) t.results t'.results (results_many f row ∙ sym (results_many f row')) s.results_are s'.results_are) at o.within.results;
      };
      index = o.index;
    }

-- ---- one turn in a state
module _ (f : File) (row : List ℕ) (base t : Tables) (s : State f row base t) (u : Turn) (o : OfRun f t u) where
  -- the parts that are lent
  abbrev lent : Tables
  lent = fronts u.lent t

  room_lent : room_of lent ≡ u.lent
  room_lent = rw (length-take-le u.lent.values t.values o.within.values, length-take-le u.lent.verdicts t.verdicts o.within.verdicts, length-take-le u.lent.results t.results o.within.results)

  -- where they have room, the fresh tables stand in them
  used_lent : Entitled f u.lent u.call → in_use f lent ≡ fresh_tables f row
  used_lent e =
      let n = length f.variables in
      let m = length f.lines in
      rw (
        column_lent row (drop n base.values) t.values n s.long s.values_are u.lent.values e.has_room.values,
        column_lent (fresh_verdicts f row) (drop m base.verdicts) t.verdicts m (verdicts_many f row) s.verdicts_are u.lent.verdicts e.has_room.verdicts,
        column_lent (fresh_results f row) (drop m base.results) t.results m (results_many f row) s.results_are u.lent.results e.has_room.results,
      )

  -- the tests are the model's: neither 24 nor 25 arises
  tests_by : (r : Reply (Unit {0})) → entitled f u.lent u.call ≡ r → (r >> (values_fit f lent.values >> (verdicts_fit f lent.verdicts >> index_fits f u.call.index))) ≡ r
  tests_by (Ok tt) e =
      let g = used_lent (entitled_passed f u.lent u.call e) in
      let values = ap (λ (z : Tables). z.values) g in
      let verdicts = ap (λ (z : Tables). z.verdicts) g in
      rw (values, verdicts, unfit_none f.variables row s.fits, none_above f.variables row 0 f.lines, index_fits_lem f u.call.index o.index)
  tests_by (Err r) e = refl

  tests_alike : admitted f lent u.call ≡ entitled f u.lent u.call
  unfolding admitted
  tests_alike = rw room_lent (tests_by (entitled f u.lent u.call) refl)

  -- an outcome beside the model's
  record Went (w : Outcome) (k : ModelOutcome) : Type 0 where
    reply_is : w.reply ≡ k.reply
    state_is : State f k.row base w.tables

  -- what a change leaves of the parts, in front of the rest
  abbrev whole : Outcome → Outcome
  whole w = record { reply = w.reply; tables = put_back u.lent w.tables t }

  -- accepted
  made_went : Entitled f u.lent u.call → Went (whole (made f lent u.call)) (modelled f row u (Ok tt))
  unfolding made
  made_went e =
      let n = length f.variables in
      let m = length f.lines in
      let c = u.call.change in
      let x = u.call.index in
      let after = set row c.variable c.value in
      let used = used_lent e in
      let new : step f x c (in_use f lent) ≡ fresh_tables f after = ap (step f x c) used ∙ step_fresh f x o.index c row e.variable in
      record {
        reply_is = ap₂ (λ (a b : Tables). Ok (effect f x c a b)) used new ∙ rw (concerned_naming f x o.index c.variable e.variable);
        state_is = record {
          long = length-set row c.variable c.value ∙ s.long;
          fits = fits_set f.variables row c.variable c.value s.fits (rw s.long e.variable) e.value;
          values_are =
              ap (λ (z : Tables). (z.values ++ drop n lent.values) ++ drop u.lent.values t.values) new
              ∙ column_put row (drop n base.values) t.values n s.long s.values_are u.lent.values o.within.values e.has_room.values after;
          verdicts_are =
              ap (λ (z : Tables). (z.verdicts ++ drop m lent.verdicts) ++ drop u.lent.verdicts t.verdicts) new
              ∙ column_put (fresh_verdicts f row) (drop m base.verdicts) t.verdicts m (verdicts_many f row) s.verdicts_are u.lent.verdicts o.within.verdicts e.has_room.verdicts (fresh_verdicts f after);
          results_are =
              ap (λ (z : Tables). (z.results ++ drop m lent.results) ++ drop u.lent.results t.results) new
              ∙ column_put (fresh_results f row) (drop m base.results) t.results m (results_many f row) s.results_are u.lent.results o.within.results e.has_room.results (fresh_results f after);
        };
      }

  -- accepted or refused
  changed_went : (r : Reply (Unit {0})) → entitled f u.lent u.call ≡ r → Went (whole (changed f lent u.call r)) (modelled f row u r)
  changed_went (Ok tt) e = made_went (entitled_passed f u.lent u.call e)
  changed_went (Err r) e =
      let n = length f.variables in
      let m = length f.lines in
      record {
        reply_is = refl;
        state_is = record {
          long = s.long;
          fits = s.fits;
          values_are = column_back row (drop n base.values) t.values n s.long s.values_are u.lent.values;
          verdicts_are = column_back (fresh_verdicts f row) (drop m base.verdicts) t.verdicts m (verdicts_many f row) s.verdicts_are u.lent.verdicts;
          results_are = column_back (fresh_results f row) (drop m base.results) t.results m (results_many f row) s.results_are u.lent.results;
        };
      }

  turn_went : Went (whole (change_for f lent u.call)) (model_outcome f row u)
  turn_went = rw tests_alike (changed_went (entitled f u.lent u.call) refl)

-- ---- all turns of a run
-- what they answered, and the state that they left
pub record Ran (f : File) (row : List ℕ) (base : Tables) (us : List Turn) (os : List Outcome) (t : Tables) : Type 0 where
  pub replies_are : map (λ o. o.reply) os ≡ model_replies f row us
  pub state_is : State f (model_row f row us) base t

module _ (constraint : List ℕ) (f : File) (read : read_file constraint ≡ Ok f) (base t₁ : Tables) (row₁ : List ℕ) (start : State f row₁ base t₁) where
  pub run_ran : (us : List Turn) → Each (OfRun f t₁) us → (n : ℕ) (row : List ℕ) (t : Tables) → State f row base t → Ran f row base us (outcomes the_change constraint n t us) (tables_after the_change constraint n t us)
  unfolding outcomes tables_after model_replies model_row
  run_ran [] e n row t s = record { replies_are = refl; state_is = s }
  run_ran (u ∷ us) e n row t s =
      let w : Went f row base t s u (of_state f row₁ row base t₁ t start s u e.0) (turn_outcome change_outcome constraint t u) (model_outcome f row u) = rw read (turn_went f row base t s u (of_state f row₁ row base t₁ t start s u e.0)) in
      let r = run_ran us e.1 (suc n) (model_outcome f row u).row (turn_outcome change_outcome constraint t u).tables w.state_is in
      record { replies_are = ap₂ (λ (x : Reply Effect) (xs : List (Reply Effect)). x ∷ xs) w.reply_is r.replies_are; state_is = r.state_is }
