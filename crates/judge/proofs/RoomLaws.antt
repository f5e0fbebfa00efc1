-- The room in the lent tables, by which of its tests pass. Assumes nothing.
use Prim.Native.Nat.{◌≤◌, ◌<◌}
use mathlib.Core.Path.{◌≡◌}
use lib.Dec.{leb}
use lib.ListN.{length}
use borrow.Author.Tests.{le-leb, lt-leb, leb-true}
use Rattle.refusal.specs.declared.Refusal.{Refusal}
use Rattle.refusal.specs.declared.Subject.TheVariants.{Values, Verdicts, Results}
use Rattle.refusal.specs.declared.Fault.TheVariants.{TooShort}
use Rattle.refusal.specs.Result.{Ok, Err, refusal}
use Rattle.refusal.proofs.ResultLaws.{ensure_accepted, test_accepted}
use Rattle.refusal.proofs.RefusesLaws.{Refuses, refuses_ensure, refuses_test}
use Rattle.constraint.specs.File.{File}
use Rattle.judge.specs.InUse.{Room, EnoughRoom, tables_room}

module _ (f : File) (lent : Room) where
  -- ---- the first that fails decides
  pub values_short : lent.values < length f.variables → Err (refusal Values TooShort 0) ≡ tables_room f lent
  unfolding tables_room
  values_short h = rw (lt-leb (length f.variables) lent.values h)

  module _ (a : length f.variables ≤ lent.values) where
    pub verdicts_short : lent.verdicts < length f.lines → Err (refusal Verdicts TooShort 0) ≡ tables_room f lent
    unfolding tables_room
    verdicts_short h = rw (le-leb (length f.variables) lent.values a, lt-leb (length f.lines) lent.verdicts h)

    module _ (b : length f.lines ≤ lent.verdicts) where
      pub results_short : lent.results < length f.lines → Err (refusal Results TooShort 0) ≡ tables_room f lent
      unfolding tables_room
      results_short h = rw (le-leb (length f.variables) lent.values a, le-leb (length f.lines) lent.verdicts b, lt-leb (length f.lines) lent.results h)

  -- ---- all pass exactly where there is room
  pub room_accepted : EnoughRoom f lent → Ok tt ≡ tables_room f lent
  unfolding tables_room
  room_accepted h = rw (le-leb (length f.variables) lent.values h.values, le-leb (length f.lines) lent.verdicts h.verdicts, le-leb (length f.lines) lent.results h.results)

  pub accepted_room : tables_room f lent ≡ Ok tt → EnoughRoom f lent
  unfolding tables_room
  accepted_room e =
      let a = ensure_accepted (leb (length f.variables) lent.values) _ _ tt e in
      let b = ensure_accepted (leb (length f.lines) lent.verdicts) _ _ tt a.1 in
      record {
        values = leb-true (length f.variables) lent.values a.0;
        verdicts = leb-true (length f.lines) lent.verdicts b.0;
        results = leb-true (length f.lines) lent.results (test_accepted (leb (length f.lines) lent.results) _ b.1);
      }

  -- ---- what holds of each refusal
  pub room_refuses : {P : Refusal → Type 0} → P (refusal Values TooShort 0) → P (refusal Verdicts TooShort 0) → P (refusal Results TooShort 0) → Refuses P (tables_room f lent)
  unfolding tables_room
  room_refuses p q r =
      refuses_ensure (leb (length f.variables) lent.values) _ p (
      refuses_ensure (leb (length f.lines) lent.verdicts) _ q
      (refuses_test (leb (length f.lines) lent.results) _ r))
