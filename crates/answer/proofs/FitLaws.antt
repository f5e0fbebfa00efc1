-- The values of an accepted answer fit their variables. Assumes nothing.
use Prim.Native.Nat.{ℕ, ◌<◌, ◌^◌}
use Prim.Native.Char.{code}
use mathlib.Core.Path.{◌≡◌, refl}
use mathlib.Core.Bool.{Bool, true, false, cond}
use mathlib.Core.List.{List, [], ◌∷◌, ◌++◌, flat_map}
use lib.ListN.{length, get_or}
use Rattle.edition.specs.declared.Edition.{Edition}
use Rattle.refusal.specs.Result.{Ok}
use Rattle.text.specs.Bytes.{same}
use Rattle.text.specs.Lines.{Token}
use Rattle.text.specs.Spelling.{decimal}
use Rattle.constraint.specs.File.{Variable, name_at, width_at}
use Rattle.constraint.specs.Sound.{Each, SoundVariable, Distinct}
use Rattle.judge.specs.Claims.{RowFits}
use Rattle.judge.proofs.FitLaws.{fits_none}
use Rattle.answer.specs.Read.{read_answer}
use Rattle.answer.specs.Claims.{tokens_of, values_of, IsSetting, Sets}
use Rattle.text.proofs.NameLaws.{same_true}
use Rattle.constraint.proofs.NamedLaws.{same_number}
use Rattle.answer.proofs.SettingTokenLaws.{setting_name, setting_digits}
use Rattle.answer.proofs.SettingsListLaws.{values_in}
use Rattle.answer.proofs.AcceptsLaws.{accepts_exactly}

module _ (e : Edition) (xs : List Variable) (sound : Each (SoundVariable e) xs) (distinct : Distinct xs) where
  -- ---- the values that tokens give to the variable of number i
  module _ (i : ℕ) (declared : i < length xs) where
    -- a value fits the variable
    abbrev Fits : ℕ → Type 0
    Fits v = v < 2 ^ width_at xs i

    -- the value of one token, if it names the variable, in front of the others
    front_fits : (t : Token) (h : IsSetting xs t) (b : Bool) (vs : List ℕ) → same (name_at xs h.variable) (name_at xs i) ≡ b → Each Fits vs → Each Fits (cond b (decimal h.value_digits ∷ []) [] ++ vs)
    front_fits t h true vs q p =
        let j : h.variable ≡ i = same_number xs distinct h.variable i h.declared declared (same_true _ _ q) in
        (rw (← j) h.value_fits, p)
    front_fits t h false vs q p = p

    -- the values of all tokens
    tokens_fit : (ts : List Token) → Each (IsSetting xs) ts → Each Fits (values_in (name_at xs i) ts)
    unfolding values_in flat_map
    tokens_fit [] h = tt
    tokens_fit (t ∷ ts) h =
        rw (setting_name e xs sound t h.0, setting_digits e xs sound t h.0)
        (front_fits t h.0 (same (name_at xs h.0.variable) (name_at xs i)) (values_in (name_at xs i) ts) refl (tokens_fit ts h.1))

    -- the value of the row
    value_fits : (answer row : List ℕ) → Sets xs answer row → Fits (get_or row i 0)
    unfolding values_of values_in
    value_fits answer row s = (rw (s.once i declared) at (tokens_fit (tokens_of (code "v") answer) s.no_other)).0

-- an accepted answer has a value for each variable, and the value fits
pub answer_fits : (e : Edition) (xs : List Variable) (answer row : List ℕ) → Each (SoundVariable e) xs → Distinct xs → read_answer xs answer ≡ Ok row → (length row ≡ length xs) × ((i : ℕ) → i < length xs → get_or row i 0 < 2 ^ width_at xs i)
answer_fits e xs answer row sound distinct q =
    let s = (accepts_exactly e xs answer row sound distinct).0 q in
    (s.one_for_each, λ i h. value_fits e xs sound distinct i h answer row s)

-- so the row fits, as the results of the lines need it
pub row_fits_answer : (e : Edition) (xs : List Variable) (answer row : List ℕ) → Each (SoundVariable e) xs → Distinct xs → read_answer xs answer ≡ Ok row → RowFits xs row
row_fits_answer e xs answer row sound distinct q = let p = answer_fits e xs answer row sound distinct q in fits_none xs row p.0 p.1
