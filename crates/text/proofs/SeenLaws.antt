-- Bytes that are seen: those of names and numbers are; and bytes that names and numbers have not. Assumes nothing.
use Prim.Native.Nat.{ℕ, ◌≤◌}
use Prim.Native.Char.{code}
use mathlib.Core.Path.{◌≡◌, refl, sym, ap, ◌∙◌}
use mathlib.Core.List.{List, [], ◌∷◌}
use mathlib.Core.Bool.{Bool, true, false, not}
use native.Mathlib.Omega.{arith}
use lib.Dec.{eqb, leb}
use borrow.Author.Tests.{le-leb, lt-leb, leb-true, eqb-true, ne_eqb}
use Rattle.refusal.specs.Lists.{every}
use Rattle.refusal.proofs.BoolLaws.{and_false, and_true, either}
use Rattle.text.specs.Bytes.{between, is_space, is_allowed, is_digit, is_letter, is_name_byte}
use Rattle.text.specs.Spelling.{is_name}
use Rattle.refusal.proofs.ListLaws.{every_weaken}
use Rattle.refusal.proofs.ResultLaws.{never}

-- a byte that is seen: it is allowed, and it is no white space
unfoldable pub is_seen : ℕ → Bool
is_seen = between 33 126

-- the bounds of a byte from a to z
bounds : (a z b : ℕ) → between a z b ≡ true → (a ≤ b) × (b ≤ z)
bounds a z b e = let q = and_true (leb a b) (leb b z) e in (leb-true a b q.0, leb-true b z q.1)

-- what a byte is that is seen
pub seen_allowed : (b : ℕ) → is_seen b ≡ true → is_allowed b ≡ true
unfolding is_seen is_allowed
seen_allowed b e = let q = bounds 33 126 b e in rw (ne_eqb b 9 (omega arith), le-leb 32 b (omega arith), le-leb b 126 q.1)

pub seen_solid : (b : ℕ) → is_seen b ≡ true → not (is_space b) ≡ true
unfolding is_seen is_space
seen_solid b e = let q = bounds 33 126 b e in rw (ne_eqb b 32 (omega arith), ne_eqb b 9 (omega arith))

-- digits, and that they are seen
pub digit_bounds : (b : ℕ) → is_digit b ≡ true → (48 ≤ b) × (b ≤ 57)
unfolding is_digit
digit_bounds b e = bounds 48 57 b e

pub digit_seen : (b : ℕ) → is_digit b ≡ true → is_seen b ≡ true
unfolding is_seen
digit_seen b e = let q = digit_bounds b e in rw (le-leb 33 b (omega arith), le-leb b 126 (omega arith))

pub numeral_seen : (s : List ℕ) → every is_digit s ≡ true → every is_seen s ≡ true
numeral_seen = every_weaken is_digit is_seen digit_seen

-- a letter is neither a digit nor a colon
pub letter_other : (b : ℕ) → is_letter b ≡ true → (is_digit b ≡ false) × (eqb b 58 ≡ false)
unfolding is_letter is_digit
letter_other b e =
    let h : 65 ≤ b = either _ _ (λ k. let q = bounds 97 122 b k in omega arith) (λ k. (bounds 65 90 b k).0) e in
    (rw (lt-leb b 57 (omega arith), and_false), ne_eqb b 58 (omega arith))

-- a byte of a name is seen, and so are all of them
name_byte : (b : ℕ) → is_name_byte b ≡ true → (33 ≤ b) × (b ≤ 126)
unfolding is_name_byte is_letter is_digit
name_byte b = either _ _ (either _ _ (either _ _ (λ e. let q = bounds 97 122 b e in omega arith) (λ e. let q = bounds 65 90 b e in omega arith)) (λ e. let q = bounds 48 57 b e in omega arith)) (λ e. let q = eqb-true b 95 e in omega arith)

pub byte_seen : (b : ℕ) → is_name_byte b ≡ true → is_seen b ≡ true
unfolding is_seen
byte_seen b e = let q = name_byte b e in rw (le-leb 33 b q.0, le-leb b 126 q.1)

pub name_bytes : (s : List ℕ) → is_name s ≡ true → every is_name_byte s ≡ true
unfolding is_name every is_name_byte
name_bytes [] e = refl
name_bytes (b ∷ s) e = let q = and_true (is_letter b) (every is_name_byte s) e in rw q.0 q.1

pub name_seen : (s : List ℕ) → is_name s ≡ true → every is_seen s ≡ true
name_seen s e = every_weaken is_name_byte is_seen byte_seen s (name_bytes s e)

-- a byte that passes a test is not c, which does not pass it; and bytes that pass it have no c
pub passes_not : (p : ℕ → Bool) (c : ℕ) → p c ≡ false → (b : ℕ) → p b ≡ true → eqb b c ≡ false
passes_not p c f b h = ne_eqb b c (λ (e : b ≡ c). never (cc (sym h ∙ ap p e ∙ f)))

without : (p : ℕ → Bool) (c : ℕ) → p c ≡ false → (s : List ℕ) → every p s ≡ true → every (λ b. not (eqb b c)) s ≡ true
without p c f = every_weaken p (λ b. not (eqb b c)) λ b h. rw (passes_not p c f b h)

pub digits_without : (c : ℕ) → is_digit c ≡ false → (s : List ℕ) → every is_digit s ≡ true → every (λ b. not (eqb b c)) s ≡ true
digits_without = without is_digit

-- a name has no `=` and no colon
pub name_plain : (s : List ℕ) → is_name s ≡ true → every (λ b. not (eqb b (code "="))) s ≡ true
unfolding is_name_byte is_letter is_digit
name_plain s e = without is_name_byte (code "=") refl s (name_bytes s e)

pub name_no_colon : (s : List ℕ) → is_name s ≡ true → every (λ b. not (eqb b (code ":"))) s ≡ true
unfolding is_name_byte is_letter is_digit
name_no_colon s e = without is_name_byte (code ":") refl s (name_bytes s e)
