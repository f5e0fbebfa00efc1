-- Tokens that set every variable once, to the values of a row. Assumes nothing.
use Prim.Native.Nat.{ℕ, ◌<◌}
use mathlib.Core.Path.{◌≡◌, refl, sym, ap, ◌∙◌}
use mathlib.Core.List.{List, [], ◌∷◌, map}
use Rattle.std.specs.Prelude.{Option, None, Some, option_map, option_to_list}
use native.Mathlib.Omega.{arith}
use lib.ListN.{length, get_or, replicate, length-map, length-replicate, get_or-replicate}
use Rattle.edition.specs.declared.Edition.{Edition}
use Rattle.refusal.specs.Result.{Ok}
use Rattle.refusal.proofs.ResultLaws.{never}
use Rattle.refusal.proofs.ListLaws.{get_or_mapped}
use Rattle.text.specs.Lines.{Token}
use Rattle.constraint.specs.File.{Variable, name_at}
use Rattle.constraint.specs.Sound.{Each, SoundVariable, Distinct}
use Rattle.answer.specs.Read.{read_settings, all_set}
use Rattle.answer.specs.Claims.{IsSetting}
use Rattle.answer.proofs.SettingsListLaws.{values_in, settings_are, settings_accepted}

-- every token sets a variable, and every variable is set once, to its value in the row
pub record SetsOnce (xs : List Variable) (row : List ℕ) (ts : List Token) : Type 0 where
  pub no_other : Each (IsSetting xs) ts
  pub one_for_each : length row ≡ length xs
  pub once : (i : ℕ) → i < length xs → values_in (name_at xs i) ts ≡ get_or row i 0 ∷ []

-- what is mapped to a value was one
mapped_some : {A B : Type 0} (f : A → B) (o : Option A) {b : B} → option_map f o ≡ Some b → (a : A) × (o ≡ Some a) × (f a ≡ b)
mapped_some f None e = never (cc e)
mapped_some f (Some a) e = (a, refl, cc e)

-- all variables are set where the settings are those of a row
pub all_set_is : (vs : List (Option ℕ)) (row : List ℕ) → all_set vs ≡ Some row → vs ≡ map Some row
unfolding all_set
all_set_is [] row e = let z : [] ≡ row = cc e in rw (← z)
all_set_is (None ∷ vs) row e = never (cc e)
all_set_is (Some v ∷ vs) row e =
    let p = mapped_some (λ (r : List ℕ). v ∷ r) (all_set vs) e in
    rw (← p.2) (ap (λ (r : List (Option ℕ)). Some v ∷ r) (all_set_is vs p.0 p.1))

pub all_set_row : (row : List ℕ) → all_set (map Some row) ≡ Some row
unfolding all_set
all_set_row [] = refl
all_set_row (v ∷ row) = rw (all_set_row row)

-- the values of a variable: before all tokens, and those of a row
no_values : (n i : ℕ) → i < n → option_to_list {X = ℕ} (get_or (replicate n None) i None) ≡ []
no_values n i h = rw get_or-replicate

row_values : (row : List ℕ) (i : ℕ) → i < length row → option_to_list (get_or (map Some row) i None) ≡ get_or row i 0 ∷ []
row_values row i h = rw (get_or_mapped Some row i 0 None h)

-- from no settings to those of a row
module _ (e : Edition) (xs : List Variable) (sound : Each (SoundVariable e) xs) (distinct : Distinct xs) (row : List ℕ) (ts : List Token) where
  pub once_is : read_settings xs (replicate (length xs) None) ts ≡ Ok (map Some row) → SetsOnce xs row ts
  once_is q =
      let h = settings_are e xs sound distinct ts (replicate (length xs) None) (map Some row) (length-replicate (length xs) None) q in
      let l : length row ≡ length xs = sym (length-map row Some) ∙ h.long ∙ length-replicate (length xs) None in
      record {
        no_other = h.no_other;
        one_for_each = l;
        once = λ i b. sym (sym (row_values row i (omega arith)) ∙ h.values i b ∙ rw (no_values (length xs) i b));
      }

  pub once_accepted : SetsOnce xs row ts → read_settings xs (replicate (length xs) None) ts ≡ Ok (map Some row)
  once_accepted h = settings_accepted e xs sound distinct ts (replicate (length xs) None) (map Some row) (length-replicate (length xs) None) (record {
    no_other = h.no_other;
    long = length-map row Some ∙ h.one_for_each ∙ sym (length-replicate (length xs) None);
    values = λ i b. row_values row i (omega (arith, h.one_for_each)) ∙ rw (no_values (length xs) i b) (sym (h.once i b));
  })
