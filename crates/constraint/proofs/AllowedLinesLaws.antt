-- Lines whose bytes are allowed. Assumes nothing.
use Prim.Native.Nat.{ℕ, zero, suc, ◌+◌}
use mathlib.Core.Path.{◌≡◌, refl, sym, ◌∙◌}
use mathlib.Core.Bool.{Bool, true, false, ◌&&◌}
use mathlib.Core.List.{List, [], ◌∷◌}
use native.Mathlib.Omega.{arith}
use lib.ListN.{get_or}
use borrow.Author.Tests.{eqb-true}
use Rattle.refusal.specs.Lists.{every}
use Rattle.refusal.proofs.BoolLaws.{and_true, and_false}
use Rattle.refusal.proofs.ResultLaws.{never}
use Rattle.text.specs.Bytes.{is_line_feed, is_carriage_return, is_allowed}
use Rattle.text.specs.Lines.{content_of, line_of, lines_from, text_lines}
use Rattle.text.specs.Endings.{contents}
use Rattle.text.proofs.ContentLaws.{ends_feed, ends_not, allowed_not_return, content_on, content_none}
use Rattle.text.proofs.ReadingLaws.{IsAllowed}
use Rattle.constraint.specs.Sound.{Each}
use Rattle.constraint.proofs.EachLaws.{each_same}

-- files whose lines have the same contents
pub allowed_same : (a b : List ℕ) → contents a ≡ contents b → Each IsAllowed (text_lines a) → Each IsAllowed (text_lines b)
allowed_same a b = each_same (λ l. l.bytes) (λ l m e p. rw (← e) p) (text_lines a) (text_lines b)

-- ---- LF stands directly behind each CR
return_not_feed : (b : ℕ) → is_carriage_return b ≡ true → is_line_feed b ≡ false
unfolding is_carriage_return is_line_feed
return_not_feed b r = rw (eqb-true b 13 r)

-- the line that goes on in the bytes s, and those that begin in them
abbrev Allowed : List ℕ → ℕ → Type 0
Allowed s at = (every is_allowed (content_of s) ≡ true) × Each IsAllowed (lines_from false at s)

-- those that begin with s
allowed_from : (s : List ℕ) (at : ℕ) → Each IsAllowed (lines_from true at s) → Allowed s at
unfolding every content_of lines_from line_of
allowed_from [] at h = (refl, tt)
allowed_from (b ∷ s) at h = h

-- a byte further
allowed_on : (b : ℕ) (s : List ℕ) (at : ℕ) → Allowed (b ∷ s) at → Allowed s (at + 1)
unfolding every lines_from
allowed_on b s at h = go (is_line_feed b) (is_carriage_return b && is_line_feed (get_or s 0 0)) refl refl
  where
    go : (t u : Bool) → is_line_feed b ≡ t → (is_carriage_return b && is_line_feed (get_or s 0 0)) ≡ u → Allowed s (at + 1)
    go true u e k = allowed_from s (at + 1) (rw e at h.1)
    go false true e k = (rw (content_none s (omega (arith, ends_feed s (and_true (is_carriage_return b) _ k).1))), rw e at h.1)
    go false false e k = ((and_true (is_allowed b) _ (rw (content_on b s (ends_not (b ∷ s) e k)) at h.0)).1, rw e at h.1)

feed_behind : (b : ℕ) (s : List ℕ) → every is_allowed (content_of (b ∷ s)) ≡ true → is_carriage_return b ≡ true → is_line_feed (get_or s 0 0) ≡ true
unfolding every
feed_behind b s h r = go (is_line_feed (get_or s 0 0)) refl
  where
    go : (t : Bool) → is_line_feed (get_or s 0 0) ≡ t → t ≡ true
    go true e = refl
    go false e =
        let k = ends_not (b ∷ s) (return_not_feed b r) (rw (e, and_false)) in
        never (cc (sym r ∙ allowed_not_return b (and_true (is_allowed b) _ (rw (content_on b s k) at h)).0))

feeds_behind : (s : List ℕ) (at : ℕ) → Allowed s at → (i : ℕ) → is_carriage_return (get_or s i 0) ≡ true → is_line_feed (get_or s (suc i) 0) ≡ true
unfolding is_carriage_return
feeds_behind [] at h i r = never (cc r)
feeds_behind (b ∷ s) at h zero r = feed_behind b s h.0 r
feeds_behind (b ∷ s) at h (suc i) r = feeds_behind s (at + 1) (allowed_on b s at h) i r

pub no_other_return : (bytes : List ℕ) → Each IsAllowed (text_lines bytes) → (i : ℕ) → is_carriage_return (get_or bytes i 0) ≡ true → is_line_feed (get_or bytes (suc i) 0) ≡ true
no_other_return bytes h = feeds_behind bytes 0 (allowed_from bytes 0 h)
