-- Demand 3: one claim about a whole run, and what follows from it.
use Rattle.std.specs.Prelude.{ℕ, suc, ◌≤◌, min, ◌≡◌, Bool, false, List, map, length, get_or}
use Rattle.refusal.specs.declared.Refusal.{Refusal}
use Rattle.refusal.specs.declared.Fault.TheVariants.{HeldDoesNotFit, WrongIndex}
use Rattle.refusal.specs.Result.{Reply, Ok, Err}
use Rattle.constraint.specs.File.{File}
use Rattle.constraint.specs.Read.{read_file}
use Rattle.constraint.specs.Sound.{Each}
use Rattle.judge.specs.declared.Overall.{Overall}
use Rattle.judge.specs.Judge.{fresh_verdicts, overall_of}
use Rattle.judge.specs.InUse.{Tables, column_in_use, put_in_use, fresh_tables, Room}
use Rattle.answer.specs.Read.{read_answer}
use Rattle.tables.specs.Check.{CheckOutcome, check_outcome}
use Rattle.index.specs.Select.{naming}
use Rattle.index.specs.AnyIndex.{concerned}
use Rattle.index.specs.Claims.{OwnOrNone}
use Rattle.moves.specs.declared.Effect.{Effect}
use Rattle.moves.specs.Gate.{Call}
use Rattle.moves.specs.Change.{Outcome, change_outcome}
use Rattle.moves.specs.Run.{Turn, ChangeCall, turn_outcome, outcomes, tables_after, EachTurn, the_change, model_replies, model_row}

-- an accepted check: the file and the row of values that it read, and the tables that it left
pub record AcceptedCheck (constraint answer : List ℕ) (t : Tables) (f : File) (row : List ℕ) (t₁ : Tables) : Type 0 where
  pub file_is_read : read_file constraint ≡ Ok f
  pub answer_is_read : read_answer f.variables answer ≡ Ok row
  pub overall : Overall
  pub call : ◌≡◌ {A = CheckOutcome} (record { reply = Ok overall; tables = t₁ }) (check_outcome constraint answer t)

-- no more entries are lent than there are
pub record LentWithin (lent : Room) (t : Tables) : Type 0 where
  pub values : lent.values ≤ length t.values
  pub verdicts : lent.verdicts ≤ length t.verdicts
  pub results : lent.results ≤ length t.results

-- a turn of a run of demand 3 on tables: it "uses no index or the file's own"
pub record OfRun (f : File) (t : Tables) (u : Turn) : Type 0 where
  pub within : LentWithin u.lent t
  pub index : OwnOrNone f u.call.index

-- a refusal of neither what the tables hold nor an index
pub record NotOfTables (r : Refusal) : Type 0 where
  pub not_24 : r.fault ≡ HeldDoesNotFit → ⊥
  pub not_25 : r.fault ≡ WrongIndex → ⊥

-- a reply that is neither 24 nor 25
abbrev pub HeldFits : Reply Effect → Type 0
HeldFits (Ok e) = Unit {0}
HeldFits (Err r) = NotOfTables r

-- a column of a table of lines, before and after: but for some lines it is as it was
pub record TouchesOnlyLines (lines : List Bool) (old new : List ℕ) : Type 0 where
  pub others : (j : ℕ) → get_or lines j false ≡ false → get_or new j 0 ≡ get_or old j 0
  pub long : length new ≡ length old

-- what a change of the variable i that concerns some lines leaves as it was, of the tables before it
pub record TouchesOnly (i : ℕ) (lines : List Bool) (t : Tables) (o : Outcome) : Type 0 where
  -- "A change touches no value but its variable's"
  pub other_values : (j : ℕ) → (j ≡ i → ⊥) → get_or o.tables.values j 0 ≡ get_or t.values j 0
  pub values_long : length o.tables.values ≡ length t.values
  -- "and no verdict of a line that doesn't name that variable"; behind the last line none does
  pub verdicts : TouchesOnlyLines lines t.verdicts o.tables.verdicts
  -- nor a result
  pub results : TouchesOnlyLines lines t.results o.tables.results
  -- "A refused one touches nothing"
  pub refused_nothing : (r : Refusal) → o.reply ≡ Err r → o.tables ≡ t

-- what a run answered and left, by the model: `t` is the tables before the check, `t₁` those after it
pub record AsModel (calls : ℕ → ChangeCall) (constraint : List ℕ) (f : File) (row : List ℕ) (t t₁ : Tables) (us : List Turn) : Type 0 where
  -- "Each change is refused exactly where the plain model in document 01 refuses it, and its whole answer is the model's"
  pub replies_are : map (λ o. o.reply) (outcomes calls constraint 0 t₁ us) ≡ model_replies f row us
  -- "the values are the check's with every accepted change's value put in at its variable, in order. The line verdicts .. are those of a fresh check, by the definitions of demand 2, of the same file with these values", and so are the results: "equality with a fresh check covers them"; what is behind them is as it was
  pub tables_are : tables_after calls constraint 0 t₁ us ≡ put_in_use f (fresh_tables f (model_row f row us)) t
  -- "and the overall verdict"
  pub overall_is : overall_of (column_in_use f (tables_after calls constraint 0 t₁ us).verdicts) ≡ overall_of (fresh_verdicts f (model_row f row us))
  -- "24 can't arise"
  pub held_fits : Each HeldFits (map (λ o. o.reply) (outcomes calls constraint 0 t₁ us))
  -- "A change touches no value but its variable's, and no verdict of a line that doesn't name that variable. A refused one touches nothing": each turn of the run
  pub touches_only : EachTurn (λ u. TouchesOnly u.call.change.variable (naming f u.call.change.variable)) calls constraint 0 t₁ us

-- DEMAND 3, of calls where call n does what `calls n` says: "From an accepted check, make any run of single-value changes, of any length, some refused"
abbrev pub Demand3 : (ℕ → ChangeCall) → Type 0
Demand3 calls =
    (constraint answer : List ℕ) (t : Tables) (f : File) (row : List ℕ) (t₁ : Tables) (us : List Turn)
    → AcceptedCheck constraint answer t f row t₁
    → Each (OfRun f t₁) us
    → AsModel calls constraint f row t t₁ us

-- the change meets it, call after call
abbrev pub WholeRun : Type 0
WholeRun = Demand3 the_change

-- a change that leaves the tables as they were, whatever it answers
abbrev pub DoesNothing : ChangeCall → Type 0
DoesNothing change = (constraint : List ℕ) (t : Tables) (c : Call) → (change constraint t c).tables ≡ t

-- "Demand 3 .. shuts out a change that does nothing"
abbrev pub NotIdle : Type 0
NotIdle = (calls : ℕ → ChangeCall) → Demand3 calls → ((n : ℕ) → DoesNothing (calls n)) → ⊥

-- "and one that works only the first time"
abbrev pub NotOnlyFirst : Type 0
NotOnlyFirst = (calls : ℕ → ChangeCall) → Demand3 calls → ((n : ℕ) → DoesNothing (calls (suc n))) → ⊥

-- a run of the change left what a check would leave of any answer that sets the values of the model's row
abbrev pub AsFreshCheck : Type 0
AsFreshCheck =
    (constraint answer : List ℕ) (t : Tables) (f : File) (row : List ℕ) (t₁ : Tables) (us : List Turn) (answer' : List ℕ)
    → AcceptedCheck constraint answer t f row t₁
    → Each (OfRun f t₁) us
    → read_answer f.variables answer' ≡ Ok (model_row f row us)
    → let t' = tables_after the_change constraint 0 t₁ us in
    ◌≡◌ {A = CheckOutcome} (record { reply = Ok (overall_of (column_in_use f t'.verdicts)); tables = t' }) (check_outcome constraint answer' t')

-- the first entries that are asked for, but no more than there are; and a turn as it is lent them
abbrev pub lent_of : Room → Tables → Room
lent_of lent t = record { values = min lent.values (length t.values); verdicts = min lent.verdicts (length t.verdicts); results = min lent.results (length t.results) }

abbrev pub as_lent : Tables → Turn → Turn
as_lent t u = record { call = u.call; lent = lent_of u.lent t }

-- a change of fronts, whatever it asks for, is a turn that is lent no more entries than there are
abbrev pub FrontIsTurn : Type 0
FrontIsTurn =
    (constraint : List ℕ) (t : Tables) (u : Turn)
    → LentWithin (as_lent t u).lent t × (turn_outcome change_outcome constraint t (as_lent t u) ≡ turn_outcome change_outcome constraint t u)

-- a change of a file that is read, on any tables, through any index or none, touches only its variable and the lines concerned
abbrev pub TouchesNoOther : Type 0
TouchesNoOther =
    (constraint : List ℕ) (t : Tables) (c : Call) (f : File)
    → read_file constraint ≡ Ok f
    → TouchesOnly c.change.variable (concerned f c.index c.change.variable) t (change_outcome constraint t c)

-- a change that is refused, of any constraint file, on any tables, touches nothing
abbrev pub RefusedTouchesNothing : Type 0
RefusedTouchesNothing =
    (constraint : List ℕ) (t : Tables) (c : Call) (r : Refusal)
    → (change_outcome constraint t c).reply ≡ Err r
    → (change_outcome constraint t c).tables ≡ t
