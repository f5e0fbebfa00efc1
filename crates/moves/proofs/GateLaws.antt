-- The tests of a change, by which of them pass. Assumes nothing.
use Prim.Native.Nat.{ℕ, ◌≤◌, ◌<◌, ◌^◌}
use mathlib.Core.Path.{◌≡◌, refl, sym, ◌∙◌}
use mathlib.Core.Bool.{true, false}
use mathlib.Core.List.{List}
use Rattle.std.specs.Prelude.{Option, None, Some}
use native.Mathlib.Omega.{arith}
use lib.Dec.{ltb}
use lib.ListN.{length, take}
use borrow.Author.Tests.{lt-ltb, le-ltb, ltb-true}
use Rattle.refusal.specs.declared.Refusal.{Refusal}
use Rattle.refusal.specs.declared.Subject.TheVariants.{Values, Verdicts, Call as CallsNumbers}
use Rattle.refusal.specs.declared.Fault.TheVariants.{NoSuchVariable, ValueDoesNotFit, HeldDoesNotFit}
use Rattle.refusal.specs.Lists.{first_from}
use Rattle.refusal.specs.Result.{Reply, Ok, Err, refusal, ◌>>◌}
use Rattle.refusal.proofs.ResultLaws.{ensure_accepted, then_accepted, test_accepted, none_accepted}
use Rattle.arithmetic.specs.Rules.{fits}
use Rattle.arithmetic.proofs.RuleLaws.{fits_test}
use Rattle.constraint.specs.declared.Line.{Line}
use Rattle.constraint.specs.File.{File, width_at}
use Rattle.store.specs.Tables.{variables_in}
use Rattle.store.proofs.LookupLaws.{variables_length}
use Rattle.judge.specs.Judge.{verdict_disregarded}
use Rattle.judge.specs.InUse.{Tables, row_in_use, column_in_use, Room, room_of, EnoughRoom, tables_room, first_unfit, values_fit, verdicts_fit}
use Rattle.judge.proofs.RoomLaws.{accepted_room}
use Rattle.index.specs.Index.{Index}
use Rattle.index.specs.AnyIndex.{index_fits_for, index_fits}
use Rattle.index.specs.Internal.{file_of}
use Rattle.moves.specs.Step.{Change}
use Rattle.moves.specs.Gate.{Call, changing, change_fits, entitled, admitted}
use Rattle.moves.specs.Internal.{numbers_fit}

-- a file of n variables and m lines
pub record Sized (f : File) (n m : ℕ) : Type 0 where
  pub variables : length f.variables ≡ n
  pub lines : length f.lines ≡ m

pub file_sized : (file table : List ℕ) (n : ℕ) (ls : List Line) (m : ℕ) → length ls ≡ m → Sized (file_of (variables_in file table n) ls) n m
file_sized file table n ls m e = record { variables = variables_length file table n; lines = e }

-- ---- test by test: the first that fails decides
module _ (f : File) (n m : ℕ) (sized : Sized f n m) (values verdicts : List ℕ) (i v : ℕ) where
  abbrev told : Change
  told = record { variable = i; value = v }

  pub variable_missing : n ≤ i → Err (refusal CallsNumbers NoSuchVariable 0) ≡ numbers_fit f values verdicts told
  unfolding change_fits
  variable_missing h = rw (sized.variables, le-ltb i n h)

  -- the variable is there, and has the width k
  module _ (c : i < n) (k : ℕ) (w : width_at f.variables i ≡ k) where
    pub value_too_large : fits (record { width = k; value = v }) ≡ false → Err (refusal CallsNumbers ValueDoesNotFit 0) ≡ numbers_fit f values verdicts told
    unfolding change_fits
    value_too_large h = rw (sized.variables, lt-ltb i n c, w, sym (fits_test k v) ∙ h)

    module _ (d : fits (record { width = k; value = v }) ≡ true) where
      pub values_unfit : (j : ℕ) → Some j ≡ first_unfit f.variables (take n values) → Err (refusal Values HeldDoesNotFit j) ≡ numbers_fit f values verdicts told
      unfolding change_fits
      values_unfit j h = rw (sized.variables, lt-ltb i n c, w, sym (fits_test k v) ∙ d, ← h)

      module _ (e : None ≡ first_unfit f.variables (take n values)) where
        pub verdicts_unfit : (j : ℕ) → Some j ≡ first_from (ltb verdict_disregarded) 0 (take m verdicts) → Err (refusal Verdicts HeldDoesNotFit j) ≡ numbers_fit f values verdicts told
        unfolding change_fits
        verdicts_unfit j h = rw (sized.variables, sized.lines, lt-ltb i n c, w, sym (fits_test k v) ∙ d, ← e, ← h)

        pub numbers_pass : None ≡ first_from (ltb verdict_disregarded) 0 (take m verdicts) → Ok tt ≡ numbers_fit f values verdicts told
        unfolding change_fits
        numbers_pass h = rw (sized.variables, sized.lines, lt-ltb i n c, w, sym (fits_test k v) ∙ d, ← e, ← h)

-- ---- all tests: of the room, of the numbers, of the index
tests_then : (a b c d e : Reply (Unit {0})) → ((a >> b) >> (c >> (d >> e))) ≡ (a >> ((b >> (c >> d)) >> e))
tests_then (Ok p) (Ok q) (Ok s) d e = refl
tests_then (Ok p) (Ok q) (Err r) d e = refl
tests_then (Ok p) (Err r) c d e = refl
tests_then (Err r) b c d e = refl

module _ (f : File) (t : Tables) (i v : ℕ) (x : Option Index) where
  abbrev held : Reply (Unit {0})
  held = numbers_fit f t.values t.verdicts (record { variable = i; value = v })

  pub gate_then : admitted f t (changing i v x) ≡ (tables_room f (room_of t) >> (held >> index_fits f x))
  unfolding admitted entitled
  gate_then = tests_then (tables_room f (room_of t)) (change_fits f (record { variable = i; value = v })) (values_fit f t.values) (verdicts_fit f t.verdicts) (index_fits f x)

  pub gate_short : (r : Refusal) → Err r ≡ tables_room f (room_of t) → Err r ≡ admitted f t (changing i v x)
  gate_short r e = rw (gate_then, ← e)

  pub gate_barred : (r : Refusal) → Ok tt ≡ tables_room f (room_of t) → Err r ≡ held → Err r ≡ admitted f t (changing i v x)
  gate_barred r a e = rw (gate_then, ← a, ← e)

  pub gate_fitted : Ok tt ≡ tables_room f (room_of t) → Ok tt ≡ held → (q : Reply (Unit {0})) → q ≡ index_fits f x → q ≡ admitted f t (changing i v x)
  gate_fitted a b q e = rw (gate_then, ← a, ← b) e

-- of n variables and m lines
pub index_fitted : (f : File) (n m : ℕ) → Sized f n m → (x : Index) → index_fits_for n m x ≡ index_fits f (Some x)
index_fitted f n m sized x = rw (sized.variables, sized.lines)

-- ---- what holds where tests pass
-- those before 24
pub record Entitled (f : File) (lent : Room) (c : Call) : Type 0 where
  pub has_room : EnoughRoom f lent
  pub variable : c.change.variable < length f.variables
  pub value : c.change.value < 2 ^ width_at f.variables c.change.variable

pub entitled_passed : (f : File) (lent : Room) (c : Call) → entitled f lent c ≡ Ok tt → Entitled f lent c
unfolding entitled change_fits
entitled_passed f lent c e =
    let n = length f.variables in
    let i = c.change.variable in
    let w = 2 ^ width_at f.variables i in
    let a = then_accepted (tables_room f lent) _ tt e in
    let d = ensure_accepted (ltb i n) _ _ tt a.1 in
    record {
      has_room = accepted_room f lent a.0;
      variable = ltb-true i n d.0;
      value = ltb-true c.change.value w (test_accepted (ltb c.change.value w) _ d.1);
    }

-- all
pub record Admitted (f : File) (t : Tables) (c : Call) : Type 0 where
  pub is_entitled : Entitled f (room_of t) c
  pub values_fit : first_unfit f.variables (row_in_use f t.values) ≡ None
  pub verdicts_fit_lem : first_from (ltb verdict_disregarded) 0 (column_in_use f t.verdicts) ≡ None
  pub index_fits_lem : index_fits f c.index ≡ Ok tt

pub admitted_passed : (f : File) (t : Tables) (c : Call) → admitted f t c ≡ Ok tt → Admitted f t c
unfolding admitted
admitted_passed f t c e =
    let a = then_accepted (entitled f (room_of t) c) _ tt e in
    let b = then_accepted (values_fit f t.values) _ tt a.1 in
    let d = then_accepted (verdicts_fit f t.verdicts) _ tt b.1 in
    record {
      is_entitled = entitled_passed f (room_of t) c a.0;
      values_fit = none_accepted (first_unfit f.variables (row_in_use f t.values)) _ b.0;
      verdicts_fit_lem = none_accepted (first_from (ltb verdict_disregarded) 0 (column_in_use f t.verdicts)) _ d.0;
      index_fits_lem = d.1;
    }

-- of n variables and m lines
pub admitted_within : (f : File) (n m : ℕ) → Sized f n m → (t : Tables) (i v : ℕ) (x : Option Index) → Admitted f t (changing i v x) → (i < n) × (n ≤ length t.values) × (m ≤ length t.verdicts) × (m ≤ length t.results)
admitted_within f n m sized t i v x p =
    let e = p.is_entitled in
    let h = e.has_room in
    (omega (arith, e.variable, sized.variables), omega (arith, h.values, sized.variables), omega (arith, h.verdicts, sized.lines), omega (arith, h.results, sized.lines))
