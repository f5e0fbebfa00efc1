-- A run of changes on the first entries of the tables, and demand 3's plain model of it.
use Rattle.std.specs.Prelude.{ℕ, suc, List, [], ◌∷◌, ◌++◌, take, drop, set, None}
use Rattle.refusal.specs.Result.{Reply, Ok, Err}
use Rattle.constraint.specs.File.{File}
use Rattle.judge.specs.InUse.{Tables, tables_of, fresh_tables, Room}
use Rattle.moves.specs.declared.Effect.{Effect}
use Rattle.moves.specs.Step.{effect}
use Rattle.moves.specs.Gate.{Call, entitled}
use Rattle.moves.specs.Change.{Outcome, change_outcome}

-- THE RUN

-- a turn of a run: a call, and how many entries of each table it is lent, "whole or only their first entries"
pub record Turn : Type 0 where
  pub call : Call
  pub lent : Room

-- the first entries of tables; and such entries, in front of what stands behind them
abbrev pub fronts : Room → Tables → Tables
fronts n t = tables_of (take n.values t.values) (take n.verdicts t.verdicts) (take n.results t.results)

abbrev pub put_back : Room → Tables → Tables → Tables
put_back n front t =
    tables_of (front.values ++ drop n.values t.values) (front.verdicts ++ drop n.verdicts t.verdicts) (front.results ++ drop n.results t.results)

-- what changes do: from the constraint file, the tables lent and the call to the reply and the tables at exit
abbrev pub ChangeCall : Type 0
ChangeCall = List ℕ → Tables → Call → Outcome

-- what a turn answers, and the whole tables after it
abbrev pub turn_outcome : ChangeCall → List ℕ → Tables → Turn → Outcome
turn_outcome change constraint t u = let o = change constraint (fronts u.lent t) u.call in record { reply = o.reply; tables = put_back u.lent o.tables t }

-- turns in a row, on one file; call n does what `calls n` says, and each is lent the tables "as the check or the change before it left them"
unfoldable pub outcomes : (ℕ → ChangeCall) → List ℕ → ℕ → Tables → List Turn → List Outcome
outcomes calls constraint n t [] = []
outcomes calls constraint n t (u ∷ us) = let o = turn_outcome (calls n) constraint t u in o ∷ outcomes calls constraint (suc n) o.tables us

-- the tables after them
unfoldable pub tables_after : (ℕ → ChangeCall) → List ℕ → ℕ → Tables → List Turn → Tables
tables_after calls constraint n t [] = t
tables_after calls constraint n t (u ∷ us) = tables_after calls constraint (suc n) (turn_outcome (calls n) constraint t u).tables us

-- something holds of each turn: of the turn, the whole tables before it, and its reply with the whole tables after it
abbrev pub EachTurn : (Turn → Tables → Outcome → Type 0) → (ℕ → ChangeCall) → List ℕ → ℕ → Tables → List Turn → Type 0
EachTurn P calls constraint n t [] = Unit {0}
EachTurn P calls constraint n t (u ∷ us) = let o = turn_outcome (calls n) constraint t u in P u t o × EachTurn P calls constraint (suc n) o.tables us

-- each call does what the contract of the change says
abbrev pub the_change : ℕ → ChangeCall
the_change n = change_outcome

-- THE MODEL: "It holds a row of values in declaration order, nothing else"

-- the reply, and the row after the turn
pub record ModelOutcome : Type 0 where
  pub reply : Reply Effect
  pub row : List ℕ

-- "A refused one leaves the row. Any other puts its value in at its variable. It answers the four things above, by the file, the rows before and after and their verdicts"
abbrev pub modelled : File → List ℕ → Turn → Reply (Unit {0}) → ModelOutcome
modelled f row u (Ok passed) =
    let c = u.call.change in
    let after = set row c.variable c.value in
    record { reply = Ok (effect f None c (fresh_tables f row) (fresh_tables f after)); row = after }
modelled f row u (Err r) = record { reply = Err r; row = row }

-- one turn: "refused 21 .., then 23 .., then 18"; "24 can't arise", nor can 25, where no index or the file's own is used
abbrev pub model_outcome : File → List ℕ → Turn → ModelOutcome
model_outcome f row u = modelled f row u (entitled f u.lent u.call)

-- the replies to all turns, and the row after them
unfoldable pub model_replies : File → List ℕ → List Turn → List (Reply Effect)
model_replies f row [] = []
model_replies f row (u ∷ us) = let o = model_outcome f row u in o.reply ∷ model_replies f o.row us

unfoldable pub model_row : File → List ℕ → List Turn → List ℕ
model_row f row [] = row
model_row f row (u ∷ us) = model_row f (model_outcome f row u).row us
