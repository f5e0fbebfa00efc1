-- The tests of a change, in their order.
use Rattle.std.specs.Prelude.{ℕ, ◌^◌, ltb, length, Option}
use Rattle.refusal.specs.declared.Subject.TheVariants.{Call as CallsNumbers}
use Rattle.refusal.specs.declared.Fault.TheVariants.{ValueDoesNotFit, NoSuchVariable}
use Rattle.refusal.specs.Result.{Reply, refusal, ensure, ◌>>◌}
use Rattle.constraint.specs.File.{File, width_at}
use Rattle.judge.specs.InUse.{Tables, Room, room_of, tables_room, values_fit, verdicts_fit}
use Rattle.index.specs.Index.{Index}
use Rattle.index.specs.AnyIndex.{index_fits}
use Rattle.moves.specs.Step.{Change}

-- a call, but for the tables: what it is told, and the index that it is lent, if any
pub record Call : Type 0 where
  pub change : Change
  pub index : Option Index

-- the call that changes the variable i to the value v
abbrev pub changing : ℕ → ℕ → Option Index → Call
changing i v x = record { change = record { variable = i; value = v }; index = x }

-- 23, then 18
unfoldable pub change_fits : File → Change → Reply (Unit {0})
change_fits f c = do
  ensure (ltb c.variable (length f.variables)) (refusal CallsNumbers NoSuchVariable 0)
  ensure (ltb c.value (2 ^ width_at f.variables c.variable)) (refusal CallsNumbers ValueDoesNotFit 0)

-- the tests that come before 24: they "go by what that change is lent and told", and not by what stands in the tables
unfoldable pub entitled : File → Room → Call → Reply (Unit {0})
entitled f lent c = do
  tables_room f lent
  change_fits f c.change

-- all tests: "21, 23, 18, 24", then 25
unfoldable pub admitted : File → Tables → Call → Reply (Unit {0})
admitted f t c = do
  entitled f (room_of t) c
  values_fit f t.values
  verdicts_fit f t.verdicts
  index_fits f c.index
