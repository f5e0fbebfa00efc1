-- From an accepted check every run answers and leaves what the model does, which is what a fresh check leaves. Assumes nothing.
use Prim.Native.Nat.{ℕ, ◌^◌, min}
use mathlib.Core.Path.{◌≡◌, refl, sym, ap, ◌∙◌}
use mathlib.Core.List.{List, [], ◌∷◌}
use native.Mathlib.Nat.{min-le_right}
use native.Mathlib.Omega.{arith}
use lib.Dec.{ltb}
use lib.ListN.{length, drop}
use Rattle.refusal.specs.declared.Subject.{Subject}
use Rattle.refusal.specs.declared.Subject.TheVariants.{Values, Verdicts, Results}
use Rattle.refusal.specs.declared.Fault.TheVariants.{TooShort}
use Rattle.refusal.specs.Result.{Reply, Ok, Err, refusal}
use Rattle.refusal.proofs.ResultLaws.{never}
use Rattle.refusal.proofs.RefusesLaws.{Refuses, refuses_then, refuses_ensure, refuses_test}
use Rattle.constraint.specs.File.{File, edition_of, width_at}
use Rattle.constraint.specs.Sound.{Each}
use Rattle.constraint.proofs.SoundLaws.{accepted_is_sound}
use Rattle.judge.specs.Judge.{fresh_verdicts, fresh_results, overall_of}
use Rattle.judge.specs.InUse.{Tables, put_in_use, fresh_tables, Room, room_of}
use Rattle.judge.proofs.RoomLaws.{room_refuses}
use Rattle.answer.proofs.FitLaws.{answer_fits, row_fits_answer}
use Rattle.tables.specs.Check.{checking, checked}
use Rattle.tables.proofs.CheckingLaws.{checking_steps, steps_checking}
use Rattle.tables.proofs.CheckLaws.{tables_filled}
use Rattle.moves.specs.Gate.{change_fits, entitled}
use Rattle.moves.specs.Change.{Outcome, change_outcome}
use Rattle.moves.specs.Run.{Turn, fronts, put_back, turn_outcome, tables_after, the_change, modelled, model_replies, model_outcome, model_row}
use Rattle.moves.specs.WholeRun.{AcceptedCheck, NotOfTables, HeldFits, WholeRun, AsFreshCheck, FrontIsTurn}
use Rattle.moves.proofs.ColumnLaws.{column_within, column_front, column_is, take_least, drop_least}
use Rattle.moves.proofs.TouchLaws.{run_touches}
use Rattle.moves.proofs.RunLaws.{State, verdicts_many, results_many, run_ran}

-- ---- the model refuses with neither 24 nor 25
model_refuses : (f : File) (u : Turn) → Refuses NotOfTables (entitled f u.lent u.call)
unfolding entitled change_fits
model_refuses f u =
    let c = u.call.change in
    let short : (s : Subject) → NotOfTables (refusal s TooShort 0) = λ s. record { not_24 = λ e. (cc e); not_25 = λ e. (cc e) } in
    refuses_then (room_refuses f u.lent (short Values) (short Verdicts) (short Results)) (
    refuses_ensure (ltb c.variable (length f.variables)) _ (record { not_24 = λ e. (cc e); not_25 = λ e. (cc e) }) (
    refuses_test (ltb c.value (2 ^ width_at f.variables c.variable)) _ (record { not_24 = λ e. (cc e); not_25 = λ e. (cc e) })))

reply_fits : (f : File) (row : List ℕ) (u : Turn) (r : Reply (Unit {0})) → entitled f u.lent u.call ≡ r → HeldFits (modelled f row u r).reply
reply_fits f row u (Ok tt) e = tt
reply_fits f row u (Err x) e = (model_refuses f u).holds x e

all_fit : (f : File) (row : List ℕ) (us : List Turn) → Each HeldFits (model_replies f row us)
unfolding model_replies
all_fit f row [] = tt
all_fit f row (u ∷ us) = (reply_fits f row u (entitled f u.lent u.call) refl, all_fit f (model_outcome f row u).row us)

-- ---- the start
module _ (constraint answer : List ℕ) (t : Tables) (f : File) (row : List ℕ) (t₁ : Tables) (a : AcceptedCheck constraint answer t f row t₁) where
  -- the check is accepted, so it has room
  checking_is : (r : Reply (File × List ℕ)) → checking constraint answer (room_of t) ≡ r → Ok a.overall ≡ (checked t r).reply → checking constraint answer (room_of t) ≡ Ok (f, row)
  checking_is (Ok (g, other)) e q =
      let s = checking_steps constraint answer (room_of t) g other e in
      let z : Ok f ≡ Ok g = sym a.file_is_read ∙ s.file in
      let y : f ≡ g = cc z in
      steps_checking constraint answer (room_of t) f row (record { file = a.file_is_read; answered = a.answer_is_read; has_room = rw y s.has_room })
  checking_is (Err x) e q = never (cc q)

  -- the tables that it left
  left : t₁ ≡ put_in_use f (fresh_tables f row) t
  left = ap (λ o. o.tables) (a.call ∙ ap (checked t) (checking_is (checking constraint answer (room_of t)) refl (ap (λ o. o.reply) a.call)))

  check_state : State f row t t₁
  check_state =
      let s = accepted_is_sound constraint f a.file_is_read in
      record {
        long = (answer_fits (edition_of f) f.variables answer row s.variables s.distinct a.answer_is_read).0;
        fits = row_fits_answer (edition_of f) f.variables answer row s.variables s.distinct a.answer_is_read;
        values_are = ap (λ z. z.values) left;
        verdicts_are = ap (λ z. z.verdicts) left;
        results_are = ap (λ z. z.results) left;
      }

-- ---- the whole run
pub whole_run : WholeRun
whole_run constraint answer t f row t₁ us a e =
    let m = length f.lines in
    let last = model_row f row us in
    let start = check_state constraint answer t f row t₁ a in
    let w = run_ran constraint f a.file_is_read t t₁ row start us e 0 row t₁ start in
    let s = w.state_is in
    record {
      replies_are = w.replies_are;
      tables_are = rw (← s.values_are, ← s.verdicts_are, ← s.results_are);
      overall_is = ap overall_of (column_front (fresh_verdicts f last) (drop m t.verdicts) (tables_after the_change constraint 0 t₁ us).verdicts m (verdicts_many f last) s.verdicts_are);
      held_fits = rw w.replies_are (all_fit f row us);
      touches_only = run_touches constraint f a.file_is_read t₁ us e 0 t₁;
    }

-- ---- a fresh check
pub as_fresh_check : AsFreshCheck
as_fresh_check constraint answer t f row t₁ us answer' a e q =
    let n = length f.variables in
    let m = length f.lines in
    let last = model_row f row us in
    let verdicts = fresh_verdicts f last in
    let results = fresh_results f last in
    let t' = tables_after the_change constraint 0 t₁ us in
    let start = check_state constraint answer t f row t₁ a in
    let s = (run_ran constraint f a.file_is_read t t₁ row start us e 0 row t₁ start).state_is in
    let check = steps_checking constraint answer' (room_of t') f last (record {
      file = a.file_is_read;
      answered = q;
      has_room = record {
        values = column_within last (drop n t.values) t'.values n s.long s.values_are;
        verdicts = column_within verdicts (drop m t.verdicts) t'.verdicts m (verdicts_many f last) s.verdicts_are;
        results = column_within results (drop m t.results) t'.results m (results_many f last) s.results_are;
      };
    }) in
    tables_filled t' f last n m refl refl t'.values t'.verdicts t'.results (column_is last (drop n t.values) t'.values n s.long s.values_are) (column_is verdicts (drop m t.verdicts) t'.verdicts m (verdicts_many f last) s.verdicts_are) (column_is results (drop m t.results) t'.results m (results_many f last) s.results_are)
    ∙ ap (checked t') (sym check)

-- ---- no more entries are lent than there are
pub front_is_turn : FrontIsTurn
front_is_turn constraint t u =
    let p = u.lent.values in
    let q = u.lent.verdicts in
    let s = u.lent.results in (
      record { values = min-le_right p (length t.values); verdicts = min-le_right q (length t.verdicts); results = min-le_right s (length t.results) },
      rw (take_least p t.values, take_least q t.verdicts, take_least s t.results, drop_least p t.values, drop_least q t.verdicts, drop_least s t.results),
    )

-- what is left of the first entries, in front of the rest
abbrev pub lent_back : Room → Tables → Outcome → Outcome
lent_back lent t o = record { reply = o.reply; tables = put_back lent o.tables t }

-- a change that is lent first entries, by what it answered and left of them
pub front_lent : (constraint : List ℕ) (t : Tables) (u : Turn) (k l m : ℕ) (o : Outcome)
    → k ≡ min u.lent.values (length t.values)
    → l ≡ min u.lent.verdicts (length t.verdicts)
    → m ≡ min u.lent.results (length t.results)
    → o ≡ change_outcome constraint (fronts (record { values = k; verdicts = l; results = m }) t) u.call
    → lent_back (record { values = k; verdicts = l; results = m }) t o ≡ turn_outcome change_outcome constraint t u
front_lent constraint t u k l m o a b c e =
    ap (lent_back (record { values = k; verdicts = l; results = m }) t) e ∙ rw (a, b, c) (front_is_turn constraint t u).1
