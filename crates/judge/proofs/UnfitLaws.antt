-- The first value that does not fit its variable, found from one variable to the next. Assumes nothing.
use Prim.Native.Nat.{ℕ, zero, suc, ◌+◌, ◌≤◌, ◌<◌}
use mathlib.Core.Path.{◌≡◌, refl, sym, ap, ◌∙◌}
use mathlib.Core.Bool.{Bool, true, false, not}
use mathlib.Core.List.{List, [], ◌∷◌, zip_with}
use Rattle.std.specs.Prelude.{Option, None, Some}
use native.Mathlib.Omega.{arith}
use lib.ListN.{length, get_or, take, drop}
use lib.Seq.{length-take-le, get_or-take}
use Rattle.refusal.specs.Lists.{first_from}
use Rattle.arithmetic.specs.declared.Word.{Word}
use Rattle.arithmetic.specs.Rules.{fits}
use Rattle.constraint.specs.File.{Variable, width_at}
use Rattle.store.proofs.LookupLaws.{variables_length}
use Rattle.judge.specs.InUse.{value_words, first_unfit}
use Rattle.store.specs.Tables.{variables_in}
use Rattle.refusal.proofs.ListLaws.{first_here, first_later, first_nowhere}

-- ---- values as they are held
held_length : (xs : List Variable) (row : List ℕ) → length row ≡ length xs → length (value_words xs row) ≡ length xs
unfolding value_words zip_with
held_length [] row h = refl
held_length (x ∷ xs) [] h = let z : ⊥ = omega arith in absurd z
held_length (x ∷ xs) (v ∷ row) h = ap suc (held_length xs row (omega arith))

held_at : (xs : List Variable) (row : List ℕ) (i : ℕ) (d : Word) → length row ≡ length xs → i < length xs → get_or (value_words xs row) i d ≡ record { width = width_at xs i; value = get_or row i 0 }
unfolding value_words zip_with width_at
held_at [] row i d h p = let z : ⊥ = omega arith in absurd z
held_at (x ∷ xs) [] i d h p = let z : ⊥ = omega arith in absurd z
held_at (x ∷ xs) (v ∷ row) zero d h p = refl
held_at (x ∷ xs) (v ∷ row) (suc i) d h p = held_at xs row i d (omega arith) (omega arith)

-- ---- from one variable to the next
abbrev pub unfit : Word → Bool
unfit w = not (fits w)

-- the first value that does not fit, of those from i on
unfoldable pub unfit_from : List ℕ → List ℕ → ℕ → List ℕ → ℕ → Option ℕ
unfit_from file table n values i = first_from unfit i (drop i (value_words (variables_in file table n) (take n values)))

pub unfit_start : (file table : List ℕ) (n : ℕ) (values : List ℕ) → unfit_from file table n values 0 ≡ first_unfit (variables_in file table n) (take n values)
unfolding unfit_from first_unfit
unfit_start file table n values = refl

module _ (file table : List ℕ) (n : ℕ) (values : List ℕ) (room : n ≤ length values) where
  many : length (variables_in file table n) ≡ n
  many = variables_length file table n

  matched : length (take n values) ≡ length (variables_in file table n)
  matched = length-take-le n values room ∙ sym many

  long : length (value_words (variables_in file table n) (take n values)) ≡ n
  long = held_length (variables_in file table n) (take n values) matched ∙ many

  module _ (i : ℕ) where
    pub unfit_nowhere : n ≤ i → unfit_from file table n values i ≡ None
    unfolding unfit_from
    unfit_nowhere h = first_nowhere unfit i (value_words (variables_in file table n) (take n values)) i (omega (arith, long))

    module _ (h : i < n) where
      -- variable i and its value
      abbrev entry : Word
      entry = record { width = width_at (variables_in file table n) i; value = get_or values i 0 }

      held_entry : (d : Word) → get_or (value_words (variables_in file table n) (take n values)) i d ≡ entry
      held_entry d = held_at (variables_in file table n) (take n values) i d matched (omega (arith, many)) ∙ rw (get_or-take n values i 0 h)

      pub unfit_here : fits entry ≡ false → unfit_from file table n values i ≡ Some i
      unfolding unfit_from
      unfit_here e = first_here unfit i (value_words (variables_in file table n) (take n values)) i entry (omega (arith, long)) (rw (held_entry entry, e))

      pub unfit_later : fits entry ≡ true → unfit_from file table n values i ≡ unfit_from file table n values (i + 1)
      unfolding unfit_from
      unfit_later e = first_later unfit i (value_words (variables_in file table n) (take n values)) i entry (omega (arith, long)) (rw (held_entry entry, e))
