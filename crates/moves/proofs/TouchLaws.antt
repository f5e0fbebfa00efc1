-- What a change leaves as it was. Assumes nothing.
use Prim.Native.Nat.{ℕ, suc, ◌≤◌, ◌<◌}
use mathlib.Core.Path.{◌≡◌, refl, ap, ◌∙◌}
use mathlib.Core.Bool.{Bool}
use mathlib.Core.List.{List, [], ◌∷◌, ◌++◌}
use Rattle.std.specs.Prelude.{Option}
use lib.ListN.{length, get_or, take, drop, set, length-set, take-append-drop}
use lib.Seq.{length_front, length-take-le, get_or-set_other}
use Rattle.refusal.specs.declared.Refusal.{Refusal}
use Rattle.refusal.specs.Result.{Reply, Ok, Err}
use Rattle.refusal.proofs.ResultLaws.{never}
use Rattle.constraint.specs.File.{File}
use Rattle.constraint.specs.Read.{read_file}
use Rattle.constraint.specs.Sound.{Each}
use Rattle.judge.specs.declared.Judged.{Judged}
use Rattle.judge.specs.Judge.{verdict_byte, column_of}
use Rattle.judge.specs.InUse.{Tables, row_in_use, column_in_use, Room}
use Rattle.index.specs.Select.{naming}
use Rattle.index.specs.Index.{Index}
use Rattle.index.specs.AnyIndex.{concerned}
use Rattle.index.proofs.OwnIndexLaws.{concerned_naming}
use Rattle.moves.specs.Step.{renewed, step}
use Rattle.moves.specs.Gate.{Call, admitted}
use Rattle.moves.specs.Change.{Outcome, made, changed, change_by, change_outcome}
use Rattle.moves.specs.Run.{Turn, fronts, put_back, turn_outcome, EachTurn, the_change}
use Rattle.moves.specs.WholeRun.{OfRun, TouchesOnlyLines, TouchesOnly, TouchesNoOther, RefusedTouchesNothing}
use Rattle.moves.proofs.ColumnLaws.{place_kept}
use Rattle.moves.proofs.RenewLaws.{renewed_other, lines_long, fresh_long, new_long}
use Rattle.moves.proofs.GateLaws.{Admitted, admitted_passed}
use Rattle.moves.proofs.ChangeLaws.{values_stored}

-- ---- a change on a file that is read
-- a column of m entries in use, the lines concerned made anew
touches_column : (part : Judged → ℕ) (f : File) (x : Option Index) (i : ℕ) (row old : List ℕ) → length f.lines ≤ length old
    → TouchesOnlyLines (concerned f x i) old (renewed (concerned f x i) (column_of part f.variables row f.lines) (column_in_use f old) ++ drop (length f.lines) old)
touches_column part f x i row old room =
    let m = length f.lines in
    let lines = concerned f x i in
    let held = column_in_use f old in
    let fresh = column_of part f.variables row f.lines in
    let held_long = length-take-le m old room in
    let many = new_long part f x i row held held_long in
    record {
      others = λ j e. place_kept (renewed lines fresh held) old m j many (renewed_other lines fresh held j (lines_long part f x i row held held_long) (fresh_long part f x i row held held_long) e);
      long = length_front old (renewed lines fresh held) m many;
    }

module _ (f : File) (t : Tables) (c : Call) where
  abbrev variable : ℕ
  variable = c.change.variable

  pub made_touches : Admitted f t c → TouchesOnly variable (concerned f c.index variable) t (made f t c)
  unfolding made step
  made_touches p =
      let row = set (row_in_use f t.values) variable c.change.value in
      let room = p.is_entitled.has_room in
      let stored = values_stored f t variable c.change.value c.index p in
      record {
        other_values = λ j h. ap (λ (l : List ℕ). get_or l j 0) stored ∙ get_or-set_other t.values variable j c.change.value 0 h;
        values_long = ap length stored ∙ length-set t.values variable c.change.value;
        verdicts = touches_column (λ j. verdict_byte j.verdict) f c.index variable row t.verdicts room.verdicts;
        results = touches_column (λ j. j.result) f c.index variable row t.results room.results;
        refused_nothing = λ r e. never (cc e);
      }

  -- accepted or refused
  changed_touches : (r : Reply (Unit {0})) → admitted f t c ≡ r → (lines : List Bool) → (variable < length f.variables → concerned f c.index variable ≡ lines) → TouchesOnly variable lines t (changed f t c r)
  changed_touches (Ok tt) e lines same = let p = admitted_passed f t c e in rw (← same p.is_entitled.variable) (made_touches p)
  changed_touches (Err r) e lines same = record { other_values = λ j h. refl; values_long = refl; verdicts = record { others = λ j h. refl; long = refl }; results = record { others = λ j h. refl; long = refl }; refused_nothing = λ x q. refl }

-- ---- a change of any constraint file
refused_by : (t : Tables) (c : Call) (x : Refusal) (q : Reply File) → (change_by q t c).reply ≡ Err x → (change_by q t c).tables ≡ t
refused_by t c x (Ok f) e = (changed_touches f t c (admitted f t c) refl (concerned f c.index c.change.variable) (λ h. refl)).refused_nothing x e
refused_by t c x (Err r) e = refl

pub touches_no_other : TouchesNoOther
touches_no_other constraint t c f e = rw e (changed_touches f t c (admitted f t c) refl (concerned f c.index c.change.variable) (λ h. refl))

pub refused_touches_nothing : RefusedTouchesNothing
refused_touches_nothing constraint t c x e = refused_by t c x (read_file constraint) e

-- ---- a change of the first entries, in whole tables: it leaves the rest as well
back_column : (lines : List Bool) (k : ℕ) (old front : List ℕ) → TouchesOnlyLines lines (take k old) front → TouchesOnlyLines lines old (front ++ drop k old)
back_column lines k old front t = record { others = λ j h. place_kept front old k j t.long (t.others j h); long = length_front old front k t.long }

back_touches : (i : ℕ) (lines : List Bool) (n : Room) (t : Tables) (o : Outcome) → TouchesOnly i lines (fronts n t) o → TouchesOnly i lines t (record { reply = o.reply; tables = put_back n o.tables t })
back_touches i lines n t o k =
    let p = n.values in
    record {
      other_values = λ j h. place_kept o.tables.values t.values p j k.values_long (k.other_values j h);
      values_long = length_front t.values o.tables.values p k.values_long;
      verdicts = back_column lines n.verdicts t.verdicts o.tables.verdicts k.verdicts;
      results = back_column lines n.results t.results o.tables.results k.results;
      refused_nothing = λ r e. rw (k.refused_nothing r e, take-append-drop p t.values, take-append-drop n.verdicts t.verdicts, take-append-drop n.results t.results);
    }

-- ---- each turn of a run
module _ (constraint : List ℕ) (f : File) (read : read_file constraint ≡ Ok f) (t₁ : Tables) where
  abbrev OwnTurn : Turn → Tables → Outcome → Type 0
  OwnTurn u = TouchesOnly u.call.change.variable (naming f u.call.change.variable)

  turn_touches : (t : Tables) (u : Turn) → OfRun f t₁ u → OwnTurn u t (turn_outcome change_outcome constraint t u)
  turn_touches t u o =
      let c = u.call in
      let i = c.change.variable in
      let lent = fronts u.lent t in
      let one : TouchesOnly i (naming f i) lent (change_outcome constraint lent c) = rw read (changed_touches f lent c (admitted f lent c) refl (naming f i) (concerned_naming f c.index o.index i)) in
      back_touches i (naming f i) u.lent t (change_outcome constraint lent c) one

  pub run_touches : (us : List Turn) → Each (OfRun f t₁) us → (n : ℕ) (t : Tables) → EachTurn OwnTurn the_change constraint n t us
  run_touches [] e n t = tt
  run_touches (u ∷ us) e n t = (turn_touches t u e.0, run_touches us e.1 (suc n) (turn_outcome change_outcome constraint t u).tables)
