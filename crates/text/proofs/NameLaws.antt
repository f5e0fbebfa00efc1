-- Names, and whether two texts are the same bytes. Assumes nothing.
use Prim.Native.Nat.{ℕ, suc, ◌+◌, ◌-◌, ◌≤◌, ◌<◌}
use mathlib.Core.Path.{◌≡◌, refl, ap, sym, ◌∙◌, ap₂}
use mathlib.Core.List.{List, [], ◌∷◌, ◌++◌}
use mathlib.Core.Bool.{Bool, true, false, ◌&&◌}
use native.Mathlib.Numerals.{add-one}
use native.Mathlib.Nat.{add-zero, sub-zero}
use native.Mathlib.Omega.{arith}
use lib.Dec.{eqb}
use lib.ListN.{length, get_or, take, drop, length-take, length-drop, drop_of_length-le}
use lib.Seq.{drop-cons}
use borrow.Author.Tests.{eq-eqb, ne_eqb, eqb-true}
use Rattle.refusal.specs.Lists.{every}
use Rattle.refusal.proofs.ResultLaws.{never}
use Rattle.text.specs.Bytes.{same, is_digit, is_letter, is_name_byte}
use Rattle.text.specs.Spelling.{is_name}
use Rattle.refusal.proofs.BoolLaws.{and_false, and_true, fails}
use Rattle.text.proofs.SeenLaws.{letter_other}

-- a name at a place of f
module _ (f : List ℕ) (at : ℕ) where
  pub name_none : length f ≤ at → is_name (drop at f) ≡ false
  unfolding is_name
  name_none h = rw (drop_of_length-le f h)

  pub name_at_lem : at < length f → is_name (drop at f) ≡ (is_letter (get_or f at 0) && every is_name_byte (drop (at + 1) f))
  unfolding is_name
  name_at_lem h = rw (drop-cons f at 0 h, add-one)

-- a name has a first byte
pub name_length_lem : (s : List ℕ) → is_name s ≡ true → 1 ≤ length s
unfolding is_name
name_length_lem [] e = never (cc e)
name_length_lem (b ∷ s) e = omega arith

-- what starts with a digit is no name
pub not_name : (s t : List ℕ) → every is_digit s ≡ true → 1 ≤ length s → is_name (s ++ t) ≡ false
unfolding every is_name
not_name [] t e h = absurd (omega arith)
not_name (b ∷ s) t e h =
    let d = (and_true (is_digit b) (every is_digit s) e).0 in
    rw (fails (is_letter b) (λ l. never (cc (sym d ∙ (letter_other b l).0))))

-- a text is the same as itself
pub same_self : (s : List ℕ) → same s s ≡ true
unfolding same
same_self [] = refl
same_self (b ∷ s) = rw (eq-eqb b b refl, same_self s)

-- texts of other lengths differ
pub same_unlike : (s t : List ℕ) → (length s ≡ length t → ⊥) → same s t ≡ false
unfolding same
same_unlike [] [] h = absurd (h refl)
same_unlike [] (b ∷ t) h = refl
same_unlike (a ∷ s) [] h = refl
same_unlike (a ∷ s) (b ∷ t) h = rw (same_unlike s t (λ e. h (ap suc e)), and_false)

-- the comparison from its i-th byte on
unfoldable pub same_from : List ℕ → List ℕ → ℕ → ℕ → ℕ → ℕ → Bool
same_from f t start len at i = same (take (len - i) (drop (start + i) f)) (drop (at + i) t)

module _ (f t : List ℕ) (start len at : ℕ) where
  pub same_first : same_from f t start len at 0 ≡ same (take len (drop start f)) (drop at t)
  unfolding same_from
  same_first = rw (add-zero start, add-zero at, sub-zero len)

  pub same_short : start + len ≤ length f → (length t - at ≡ len → ⊥) → same (take len (drop start f)) (drop at t) ≡ false
  same_short k h = same_unlike (take len (drop start f)) (drop at t) (λ e. h (omega (arith, simp (length-take, length-drop) at e)))

  module _ (i : ℕ) (h : i < len) (k : start + i < length f) (l : at + i < length t) where
    pub from_step : same_from f t start len at i ≡ (eqb (get_or f (start + i) 0) (get_or t (at + i) 0) && same_from f t start len at (i + 1))
    unfolding same_from same
    from_step =
        let e : len - i ≡ suc (len - (i + 1)) = omega arith in
        let e₁ : start + (i + 1) ≡ suc (start + i) = omega arith in
        let e₂ : at + (i + 1) ≡ suc (at + i) = omega arith in
        rw (e, e₁, e₂, drop-cons f (start + i) 0 k, drop-cons t (at + i) 0 l)

    pub from_same : get_or f (start + i) 0 ≡ get_or t (at + i) 0 → same_from f t start len at (i + 1) ≡ same_from f t start len at i
    from_same e = sym (from_step ∙ rw (eq-eqb _ _ e))

    pub from_other : (get_or f (start + i) 0 ≡ get_or t (at + i) 0 → ⊥) → same_from f t start len at i ≡ false
    from_other e = from_step ∙ rw (ne_eqb _ _ e)

  pub from_end : (i : ℕ) → len ≤ i → length t ≤ at + i → same_from f t start len at i ≡ true
  unfolding same_from same
  from_end i h l = let e : len - i ≡ 0 = omega arith in rw (e, drop_of_length-le t l)

-- texts that are the same bytes are equal, and others are not the same
pub same_true : (s t : List ℕ) → same s t ≡ true → s ≡ t
unfolding same
same_true [] [] e = refl
same_true [] (b ∷ t) e = never (cc e)
same_true (a ∷ s) [] e = never (cc e)
same_true (a ∷ s) (b ∷ t) e = let p = and_true (eqb a b) (same s t) e in ap₂ ◌∷◌ (eqb-true a b p.0) (same_true s t p.1)

pub same_false : (s t : List ℕ) → (s ≡ t → ⊥) → same s t ≡ false
same_false s t h = fails (same s t) (λ e. h (same_true s t e))
