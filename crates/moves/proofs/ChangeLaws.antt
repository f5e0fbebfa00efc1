-- A change on a file that is read: refused by its tests, or made. Assumes nothing.
use Prim.Native.Nat.{ℕ, ◌<◌, ◌^◌}
use mathlib.Core.Path.{◌≡◌, refl, sym, ap, ◌∙◌}
use mathlib.Core.List.{List, ◌++◌}
use Rattle.std.specs.Prelude.{Option, None, Some}
use native.Mathlib.Decide.{ℕ_discrete}
use native.Mathlib.Numerals.{add-one}
use native.Mathlib.Omega.{arith}
use lib.ListN.{length, get_or, take, drop, set, take-append-drop}
use lib.Seq.{length-take-le, get_or-set_same, get_or-set_other, get_or-take, set-append_left, take-set-lt, take_at}
use Rattle.edition.specs.Word.{word_bits}
use Rattle.refusal.specs.declared.Refusal.{Refusal}
use Rattle.refusal.specs.Result.{Reply, Ok, Err}
use Rattle.arithmetic.specs.Bits.{differing_bits}
use Rattle.constraint.specs.File.{Variable, File, width_at}
use Rattle.judge.specs.declared.Overall.{Overall}
use Rattle.judge.specs.Judge.{verdict_byte, fresh_verdicts, fresh_results, overall_of}
use Rattle.judge.specs.InUse.{Tables, tables_of, row_in_use, tables_room}
use Rattle.judge.specs.Claims.{RowFits}
use Rattle.judge.proofs.FitLaws.{row_fits}
use Rattle.index.specs.Select.{naming}
use Rattle.index.specs.Index.{Index}
use Rattle.index.specs.AnyIndex.{concerned}
use Rattle.index.specs.Internal.{file_of}
use Rattle.index.proofs.ListedLaws.{starts_there, starts_rise, starts_within, listed_fits}
use Rattle.moves.specs.declared.Renewal.{Renewal}
use Rattle.moves.specs.Step.{renewed, step}
use Rattle.moves.specs.Gate.{Call, changing, change_fits, entitled, admitted}
use Rattle.moves.specs.Change.{Outcome, made, changed, change_for}
use Rattle.moves.specs.Internal.{columns_of, fresh_columns, renewed_front, Renewed, IndexListFitting}
use Rattle.moves.proofs.GateLaws.{Sized, Admitted}
use Rattle.moves.proofs.RenewLaws.{new_long}

-- ---- refused or accepted
module _ (f : File) (t : Tables) (c : Call) where
  pub change_refused : (r : Refusal) → Err r ≡ admitted f t c → ◌≡◌ {A = Outcome} (record { reply = Err r; tables = t }) (change_for f t c)
  change_refused r e = rw (← e)

  pub change_accepted : Ok tt ≡ admitted f t c → made f t c ≡ change_for f t c
  change_accepted e = rw (← e)

-- ---- neither version nor expectation matters
module _ (f : File) (t : Tables) (i v : ℕ) where
  changed_bare : (x : Option Index) (r : Reply (Unit {0})) → changed (file_of f.variables f.lines) t (changing i v x) r ≡ changed f t (changing i v x) r
  unfolding made step naming
  changed_bare None (Ok tt) = refl
  changed_bare (Some x) (Ok tt) = refl
  changed_bare x (Err r) = refl

  pub change_bare : (x : Option Index) → change_for (file_of f.variables f.lines) t (changing i v x) ≡ change_for f t (changing i v x)
  unfolding admitted entitled tables_room change_fits
  change_bare None = changed_bare None (admitted f t (changing i v None))
  change_bare (Some x) = changed_bare (Some x) (admitted f t (changing i v (Some x)))

-- ---- the list of the variable in the index fits
pub list_fitting : (f : File) (t : Tables) (i v : ℕ) (x : Option Index) (m : ℕ) → length f.lines ≡ m → Admitted f t (changing i v x) → IndexListFitting m x i
list_fitting f t i v None m e p = tt
list_fitting f t i v (Some x) m e p =
    let h = p.is_entitled.variable in
    record {
      there = rw (add-one i) (starts_there f x i p.index_fits_lem h);
      rises = rw (add-one i) (starts_rise f x i p.index_fits_lem h);
      within = rw (add-one i) (starts_within f x i p.index_fits_lem h);
      fits = rw (← e) (listed_fits f x i p.index_fits_lem h);
    }

-- ---- the row after a change fits
pub fits_set : (xs : List Variable) (row : List ℕ) (i v : ℕ) → RowFits xs row → i < length row → v < 2 ^ width_at xs i → RowFits xs (set row i v)
fits_set xs row i v h p q j = elim (ℕ_discrete j i) [
  | yes e ↦ rw (e, get_or-set_same row i v 0 p) q
  | no e ↦ rw (get_or-set_other row i j v 0 e) (h j)
]

module _ (f : File) (t : Tables) (i v : ℕ) (x : Option Index) (p : Admitted f t (changing i v x)) where
  row_long : length (row_in_use f t.values) ≡ length f.variables
  row_long = length-take-le (length f.variables) t.values p.is_entitled.has_room.values

  -- the value is put in in front of what is behind the row
  pub values_stored : set (row_in_use f t.values) i v ++ drop (length f.variables) t.values ≡ set t.values i v
  values_stored =
      let k = length f.variables in
      sym (set-append_left (take k t.values) (drop k t.values) i v (rw row_long p.is_entitled.variable)) ∙ ap (λ (l : List ℕ). set l i v) (take-append-drop k t.values)

  row_after : RowFits f.variables (set (row_in_use f t.values) i v)
  row_after = fits_set f.variables (row_in_use f t.values) i v (row_fits f.variables (row_in_use f t.values) row_long p.values_fit) (rw row_long p.is_entitled.variable) p.is_entitled.value

  -- ---- what an accepted change leaves, of n variables and m lines
  module _ (n m : ℕ) (sized : Sized f n m) where
    within : i < n
    within = omega (arith, p.is_entitled.variable, sized.variables)

    -- the row in use, once the value is stored
    row_stored : take n (set t.values i v) ≡ set (row_in_use f t.values) i v
    row_stored = rw sized.variables (take-set-lt n t.values i v within)

    pub stored_fits : RowFits f.variables (take n (set t.values i v))
    stored_fits = rw row_stored row_after

    -- the outcome, by what was worked out for it
    pub made_is : (o : Overall) (r : Renewal) (verdicts results : List ℕ)
        → Renewed (concerned f x i) (fresh_columns f (take n (set t.values i v))) m (columns_of t.verdicts t.results) (columns_of verdicts results) r
        → o ≡ overall_of (take m verdicts)
        → ◌≡◌ {A = Outcome} (record { reply = Ok (record { overall = o; named = r.named; altered = r.altered; bits = differing_bits word_bits (get_or t.values i 0) v }); tables = tables_of (set t.values i v) verdicts results }) (made f t (changing i v x))
    unfolding made step
    made_is o r verdicts results d e =
        let row = set (row_in_use f t.values) i v in
        let held = take m t.verdicts in
        let held_long = length-take-le m t.verdicts (omega (arith, p.is_entitled.has_room.verdicts, sized.lines)) in
        let new = renewed (concerned f x i) (fresh_verdicts f row) held in
        let many : length new ≡ m = new_long (λ j. verdict_byte j.verdict) f x i row held (held_long ∙ sym sized.lines) ∙ held_long in
        let is = rw row_stored at d.made in
        let verdicts_are : verdicts ≡ new ++ drop m t.verdicts = ap (λ c. c.verdicts) is in
        let results_are : results ≡ renewed_front (concerned f x i) (fresh_results f row) m t.results = ap (λ c. c.results) is in
        rw (e, d.counted, rw row_stored at d.differed, verdicts_are, results_are, take_at new (drop m t.verdicts) m many, values_stored, sized.lines, get_or-take (length f.variables) t.values i 0 p.is_entitled.variable)
