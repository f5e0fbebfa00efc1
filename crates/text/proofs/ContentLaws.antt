-- A line's content, terminator and length. Assumes nothing.
use Prim.Native.Nat.{ℕ, zero, suc, ◌+◌, ◌≤◌, ◌<◌}
use mathlib.Core.Path.{◌≡◌, refl, ap, ◌∙◌}
use mathlib.Core.List.{List, [], ◌∷◌, ◌++◌, append-nil}
use mathlib.Core.Bool.{Bool, true, false, cond, ◌&&◌}
use native.Mathlib.Nat.{add-zero}
use native.Mathlib.Omega.{arith}
use lib.Dec.{eqb}
use lib.ListN.{length, get_or, take, drop, length-take, length-drop}
use lib.Seq.{get_or-drop, drop-append_seam}
use borrow.Author.Tests.{ne_eqb}
use Rattle.refusal.specs.Lists.{every}
use Rattle.refusal.proofs.BoolLaws.{and_true, and_false}
use Rattle.text.specs.Bytes.{is_line_feed, is_carriage_return, is_allowed}
use Rattle.text.proofs.SeenLaws.{passes_not}
use Rattle.text.specs.Lines.{terminator_length, content_of, line_length}

-- ---- the terminator
module _ (s : List ℕ) where
  pub ends_feed : is_line_feed (get_or s 0 0) ≡ true → terminator_length s ≡ 1
  unfolding terminator_length
  ends_feed e = rw e

  -- another byte stands there
  module _ (e : is_line_feed (get_or s 0 0) ≡ false) where
    pub ends_return : (is_carriage_return (get_or s 0 0) && is_line_feed (get_or s 1 0)) ≡ true → terminator_length s ≡ 2
    unfolding terminator_length
    ends_return k = rw (e, k)

    pub ends_not : (is_carriage_return (get_or s 0 0) && is_line_feed (get_or s 1 0)) ≡ false → terminator_length s ≡ 0
    unfolding terminator_length
    ends_not k = rw (e, k)

  ends_at_most : terminator_length s ≤ 2
  unfolding terminator_length
  ends_at_most = go (is_line_feed (get_or s 0 0)) (is_carriage_return (get_or s 0 0) && is_line_feed (get_or s 1 0))
    where
      go : (t u : Bool) → cond t 1 (cond u 2 0) ≤ 2
      go true u = omega arith
      go false true = omega arith
      go false false = omega arith

-- at a place of a file
pub ends_at : (f : List ℕ) (at : ℕ) → terminator_length (drop at f) ≡ cond (eqb (get_or f at 0) 10) 1 (cond (eqb (get_or f at 0) 13 && eqb (get_or f (at + 1) 0) 10) 2 0)
unfolding terminator_length is_line_feed is_carriage_return
ends_at f at = rw (get_or-drop at f 0 0, get_or-drop at f 1 0, add-zero at)

-- it lies within the bytes
pub ends_within : (s : List ℕ) → terminator_length s ≤ length s
unfolding terminator_length is_line_feed is_carriage_return
ends_within [] = omega arith
ends_within (b ∷ []) = go (is_line_feed b)
  where
    go : (t : Bool) → cond t 1 (cond (is_carriage_return b && false) 2 0) ≤ 1
    go true = omega arith
    go false = rw (and_false (is_carriage_return b)) (omega arith)
ends_within (b ∷ c ∷ s) = omega (arith, ends_at_most (b ∷ c ∷ s))

-- a byte that is neither LF nor CR ends no line, whatever stands behind it
pub ends_other : (b : ℕ) (s : List ℕ) → is_line_feed b ≡ false → is_carriage_return b ≡ false → terminator_length (b ∷ s) ≡ 0
ends_other b s e r = ends_not (b ∷ s) e (rw r)

-- bytes that are allowed are neither
allowed_not_feed : (b : ℕ) → is_allowed b ≡ true → is_line_feed b ≡ false
unfolding is_line_feed is_allowed
allowed_not_feed = passes_not is_allowed 10 refl

pub allowed_not_return : (b : ℕ) → is_allowed b ≡ true → is_carriage_return b ≡ false
unfolding is_carriage_return is_allowed
allowed_not_return = passes_not is_allowed 13 refl

-- ---- the content
pub content_on : (b : ℕ) (s : List ℕ) → terminator_length (b ∷ s) ≡ 0 → content_of (b ∷ s) ≡ b ∷ content_of s
unfolding content_of
content_on b s e = rw e

pub content_none : (s : List ℕ) → 0 < terminator_length s → content_of s ≡ []
unfolding content_of
content_none [] h = refl
content_none (b ∷ s) h = rw (ne_eqb (terminator_length (b ∷ s)) 0 (λ e. omega arith))

-- it is a front of the bytes that the line begins with
pub content_take : (s : List ℕ) → content_of s ≡ take (length (content_of s)) s
unfolding content_of
content_take [] = refl
content_take (b ∷ s) = go (eqb (terminator_length (b ∷ s)) 0) (content_take s)
  where
    go : (t : Bool) → content_of s ≡ take (length (content_of s)) s → cond t (b ∷ content_of s) [] ≡ take (length (cond t (b ∷ content_of s) [])) (b ∷ s)
    go true ih = ap (λ (l : List ℕ). b ∷ l) ih
    go false ih = refl

pub content_short : (s : List ℕ) → length (content_of s) ≤ length s
content_short s = omega (arith, ap length (content_take s), length-take (length (content_of s)) s)

-- it goes on through bytes that are allowed
pub content_through : (r t : List ℕ) → every is_allowed r ≡ true → content_of (r ++ t) ≡ r ++ content_of t
unfolding every
content_through [] t h = refl
content_through (b ∷ r) t h =
    let q = and_true (is_allowed b) (every is_allowed r) h in
    content_on b (r ++ t) (ends_other b (r ++ t) (allowed_not_feed b q.0) (allowed_not_return b q.0)) ∙ ap (λ (l : List ℕ). b ∷ l) (content_through r t q.1)

pub content_all : (r : List ℕ) → every is_allowed r ≡ true → content_of r ≡ r
unfolding content_of
content_all r h = rw append-nil at (content_through r [] h)

-- ---- the length of a line, with its terminator
pub length_ended : (n : ℕ) (s : List ℕ) → terminator_length s ≡ suc n → line_length s ≡ suc n
unfolding line_length
length_ended n s e = rw (content_none s (omega arith)) (omega arith)

pub length_on : (b : ℕ) (s : List ℕ) → terminator_length (b ∷ s) ≡ 0 → line_length (b ∷ s) ≡ suc (line_length s)
unfolding line_length
length_on b s e = rw (content_on b s e) (omega arith)

pub length_some : (s : List ℕ) → 0 < length s → 0 < line_length s
length_some [] h = absurd (omega arith)
length_some (b ∷ s) h = go (terminator_length (b ∷ s)) refl
  where
    go : (n : ℕ) → terminator_length (b ∷ s) ≡ n → 0 < line_length (b ∷ s)
    go zero e = omega (arith, length_on b s e)
    go (suc n) e = omega (arith, length_ended n (b ∷ s) e)

pub length_within : (s : List ℕ) → line_length s ≤ length s
unfolding line_length
length_within s = let n = length (content_of s) in omega (arith, content_short s, ends_within (drop n s), length-drop n s)

-- ---- a line of bytes that are allowed, which ends in front of the bytes t
module _ (r t : List ℕ) (h : every is_allowed r ≡ true) (e : content_of t ≡ []) where
  pub ended_content : content_of (r ++ t) ≡ r
  ended_content = content_through r t h ∙ rw e (append-nil r)

  pub ended_length : line_length (r ++ t) ≡ length r + terminator_length t
  unfolding line_length
  ended_length = rw (ended_content, drop-append_seam r t)
