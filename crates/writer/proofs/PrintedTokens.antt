-- The tokens of printed settings: each sets its variable to its value. Assumes nothing.
use Prim.Native.Nat.{ℕ, zero, suc, ◌+◌, ◌<◌}
use Prim.Native.Char.{code}
use mathlib.Core.Path.{◌≡◌, refl, sym}
use mathlib.Core.List.{List, [], ◌∷◌, flat_map, zip_with}
use mathlib.Core.Bool.{true, cond}
use native.Mathlib.Omega.{arith}
use lib.ListN.{length, get_or}
use Rattle.text.specs.Bytes.{same}
use Rattle.text.specs.Lines.{Token, tokens_from}
use Rattle.text.specs.Spelling.{decimal, up_to, behind}
use Rattle.text.proofs.NameLaws.{same_self, same_false}
use Rattle.constraint.specs.File.{Variable, variable_at, name_at, width_at}
use Rattle.constraint.specs.Sound.{Each, Distinct}
use Rattle.constraint.proofs.EachLaws.{each_map, each_at}
use Rattle.answer.specs.Claims.{IsSetting}
use Rattle.printing.specs.Digits.{digits}
use Rattle.writer.specs.Text.{settings_text}
use Rattle.constraint.proofs.SpacedLaws.{spaced_tokens, spaced_tokens_lem}
use Rattle.text.proofs.TokenLaws.{up_to_join, behind_join}
use Rattle.printing.proofs.DecimalLaws.{digits_numeral, digits_make}
use Rattle.text.proofs.SeenLaws.{name_plain}
use Rattle.writer.proofs.PrintableLaws.{Printable, Printables, setting_bytes, settings_spaced, setting_words}

-- where the settings stand that are behind one at `at`
abbrev after : ℕ → Variable → ℕ → ℕ
after at x v = at + 1 + length (setting_bytes x v)

-- the tokens of settings, which stand at `at`
abbrev pub setting_tokens : ℕ → List Variable → List ℕ → List Token
setting_tokens at xs row = spaced_tokens at (zip_with setting_bytes xs row)

pub settings_tokens : (xs : List Variable) (row : List ℕ) (at : ℕ) → Printables xs row → tokens_from true at (settings_text xs row) ≡ setting_tokens at xs row
settings_tokens xs row at g = rw (settings_spaced xs row) (spaced_tokens_lem (zip_with setting_bytes xs row) at (setting_words xs row g))

-- a token that sets the first variable, or one of the others
setting_here : (x : Variable) (xs : List Variable) (v at : ℕ) → Printable x v → IsSetting (x ∷ xs) (record { start = at; bytes = setting_bytes x v })
unfolding name_at width_at
setting_here x xs v at g = record { variable = 0; value_digits = digits v; declared = omega arith; numeral = digits_numeral v; spelt = refl; value_fits = rw (digits_make v g.below) g.fits }

setting_later : (x : Variable) (xs : List Variable) (t : Token) → IsSetting xs t → IsSetting (x ∷ xs) t
unfolding name_at width_at
setting_later x xs t h = record { variable = suc h.variable; value_digits = h.value_digits; declared = omega arith; numeral = h.numeral; spelt = h.spelt; value_fits = h.value_fits }

-- every one sets a variable
pub tokens_set : (xs : List Variable) (row : List ℕ) (at : ℕ) → Printables xs row → Each (IsSetting xs) (setting_tokens at xs row)
unfolding spaced_tokens zip_with
tokens_set [] row at g = tt
tokens_set (x ∷ xs) [] at g = absurd g
tokens_set (x ∷ xs) (v ∷ row) at g = (setting_here x xs v (at + 1) g.0, each_map (setting_later x xs) (setting_tokens (after at x v) xs row) (tokens_set xs row (after at x v) g.1))

-- the value that a token gives to a name
abbrev pub value_in : List ℕ → Token → List ℕ
value_in name t = cond (same (up_to (code "=") t.bytes) name) (decimal (behind (code "=") t.bytes) ∷ []) []

-- a setting gives its value to its variable's name
value_in_lem : (name : List ℕ) (x : Variable) (v at : ℕ) → Printable x v → value_in name (record { start = at; bytes = setting_bytes x v }) ≡ cond (same x.name name) (v ∷ []) []
value_in_lem name x v at g =
    let p = name_plain x.name g.spelt in
    rw (up_to_join 61 (digits v) x.name p, behind_join 61 (digits v) x.name p, digits_make v g.below)

-- a name that is no variable's is given no value
values_none : (name : List ℕ) (xs : List Variable) (row : List ℕ) (at : ℕ) → Printables xs row → Each (λ y. name ≡ y.name → ⊥) xs → flat_map (value_in name) (setting_tokens at xs row) ≡ []
unfolding spaced_tokens zip_with flat_map
values_none name [] row at g n = refl
values_none name (x ∷ xs) [] at g n = absurd g
values_none name (x ∷ xs) (v ∷ row) at g n = rw (value_in_lem name x v (at + 1) g.0, same_false x.name name (λ e. n.0 (sym e))) (values_none name xs row (after at x v) g.1 n.1)

-- a variable's name is given its value, once
pub values_one : (xs : List Variable) (row : List ℕ) (at i : ℕ) → Printables xs row → Distinct xs → i < length xs → flat_map (value_in (name_at xs i)) (setting_tokens at xs row) ≡ get_or row i 0 ∷ []
unfolding spaced_tokens zip_with flat_map name_at
values_one [] row at i g d h = absurd (omega arith)
values_one (x ∷ xs) [] at i g d h = absurd g
values_one (x ∷ xs) (v ∷ row) at zero g d h = rw (value_in_lem x.name x v (at + 1) g.0, same_self x.name, values_none x.name xs row (after at x v) g.1 d.0)
values_one (x ∷ xs) (v ∷ row) at (suc i) g d h =
    let n = each_at (λ (y : Variable). x.name ≡ y.name → ⊥) xs i (variable_at [] 0) d.0 (omega arith) in
    rw (value_in_lem (name_at xs i) x v (at + 1) g.0, same_false x.name (name_at xs i) n) (values_one xs row (after at x v) i g.1 d.1 (omega arith))
