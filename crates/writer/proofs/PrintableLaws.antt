-- Settings as they are printed: what their bytes are, and how many. Assumes nothing.
use Prim.Native.Nat.{ℕ, suc, ◌+◌, ◌*◌, ◌^◌, ◌≤◌, ◌<◌}
use mathlib.Core.Path.{◌≡◌, refl, ap}
use mathlib.Core.List.{List, [], ◌∷◌, ◌++◌, zip_with, flatten, flat_map}
use mathlib.Core.Bool.{Bool, true}
use native.Mathlib.Omega.{arith}
use lib.ListN.{length, get_or, length-append}
use lib.Pow.{pow_mono}
use Rattle.edition.specs.declared.Edition.{Edition}
use Rattle.edition.specs.Edition.{max_name_bytes}
use Rattle.refusal.specs.Lists.{every}
use Rattle.refusal.specs.SubjectWords.{ascii}
use Rattle.text.specs.Spelling.{is_name, max_digits, number_bound}
use Rattle.constraint.specs.File.{Variable, width_at}
use Rattle.constraint.specs.Sound.{Each, SoundVariable}
use Rattle.printing.specs.Digits.{digits}
use Rattle.writer.specs.Text.{setting_text, settings_text}
use Rattle.printing.proofs.DigitLaws.{digits_count}
use Rattle.printing.proofs.DecimalLaws.{digits_all}
use Rattle.constraint.proofs.SpacedLaws.{SeenWord, word_name, word_more, behind_spaces, spaced_every}
use Rattle.text.proofs.SeenLaws.{is_seen, numeral_seen}

-- a variable with a short name, and a value that fits it
pub record Printable (x : Variable) (v : ℕ) : Type 0 where
  pub spelt : is_name x.name ≡ true
  pub short : length x.name ≤ max_name_bytes
  pub fits : v < 2 ^ x.width
  pub below : v < number_bound

-- variables, and a value for each
abbrev pub Printables : List Variable → List ℕ → Type 0
Printables [] [] = Unit {0}
Printables [] (v ∷ row) = ⊥
Printables (x ∷ xs) [] = ⊥
Printables (x ∷ xs) (v ∷ row) = Printable x v × Printables xs row

-- sound variables, and a row of values that fit them
pub printables : (e : Edition) (xs : List Variable) (row : List ℕ) → Each (SoundVariable e) xs → length row ≡ length xs → ((i : ℕ) → i < length xs → get_or row i 0 < 2 ^ width_at xs i) → Printables xs row
unfolding width_at
printables e [] [] s l f = tt
printables e [] (v ∷ row) s l f = absurd (omega arith)
printables e (x ∷ xs) [] s l f = absurd (omega arith)
printables e (x ∷ xs) (v ∷ row) s l f =
    let fits : v < 2 ^ x.width = f 0 (omega arith) in
    let most : 2 ^ x.width ≤ number_bound = pow_mono s.0.width.most in
    (record { spelt = s.0.spelt; short = s.0.short; fits = fits; below = omega arith }, printables e xs row s.1 (omega arith) (λ i h. f (suc i) (omega arith)))

-- `name=value`
abbrev pub setting_bytes : Variable → ℕ → List ℕ
setting_bytes x v = x.name ++ ascii "=" ++ digits v

-- the clauses of `settings`, as laws
pub settings_none : (row : List ℕ) → settings_text [] row ≡ []
unfolding settings_text zip_with flatten
settings_none row = refl

pub settings_more : (x : Variable) (xs : List Variable) (v : ℕ) (row : List ℕ) → settings_text (x ∷ xs) (v ∷ row) ≡ 32 ∷ setting_bytes x v ++ settings_text xs row
unfolding settings_text setting_text zip_with flatten
settings_more x xs v row = refl

-- settings are words, each behind a space
pub settings_spaced : (xs : List Variable) (row : List ℕ) → settings_text xs row ≡ behind_spaces (zip_with setting_bytes xs row)
unfolding settings_text setting_text zip_with flatten flat_map
settings_spaced [] row = refl
settings_spaced (x ∷ xs) [] = refl
settings_spaced (x ∷ xs) (v ∷ row) = ap (λ (s : List ℕ). 32 ∷ setting_bytes x v ++ s) (settings_spaced xs row)

pub setting_words : (xs : List Variable) (row : List ℕ) → Printables xs row → Each SeenWord (zip_with setting_bytes xs row)
unfolding zip_with every is_seen
setting_words [] row g = tt
setting_words (x ∷ xs) [] g = absurd g
setting_words (x ∷ xs) (v ∷ row) g = (word_more (x.name ++ ascii "=") (digits v) (word_more x.name (ascii "=") (word_name x.name g.0.spelt) refl) (numeral_seen (digits v) (digits_all v)), setting_words xs row g.1)

-- their bytes pass a test that spaces pass, and bytes that are seen
pub settings_every : (p : ℕ → Bool) → p 32 ≡ true → ((b : ℕ) → is_seen b ≡ true → p b ≡ true) → (xs : List Variable) (row : List ℕ) → Printables xs row → every p (settings_text xs row) ≡ true
settings_every p h f xs row g = rw (settings_spaced xs row) (spaced_every p h f (zip_with setting_bytes xs row) (setting_words xs row g))

-- how long settings are, at most
pub settings_short : (xs : List Variable) (row : List ℕ) → Printables xs row → length (settings_text xs row) ≤ length xs * (2 + max_name_bytes + max_digits)
settings_short [] row g = rw settings_none (omega arith)
settings_short (x ∷ xs) [] g = absurd g
settings_short (x ∷ xs) (v ∷ row) g = rw (settings_more x xs v row) (omega (arith, g.0.short, digits_count v, settings_short xs row g.1, length-append (setting_bytes x v) (settings_text xs row), length-append (x.name ++ ascii "=") (digits v), length-append x.name (ascii "=")))
