-- Files that end their lines with CR LF, and files without CR. Assumes nothing.
use Prim.Native.Nat.{ℕ, suc, ◌+◌, ◌≤◌}
use mathlib.Core.Path.{◌≡◌, refl, ap, sym, ◌∙◌}
use mathlib.Core.Bool.{Bool, true, false, cond, not}
use mathlib.Core.List.{List, [], ◌∷◌, map, flat_map}
use native.Mathlib.Omega.{arith}
use lib.ListN.{length, take}
use borrow.Author.Tests.{not-true}
use Rattle.refusal.specs.Lists.{every}
use Rattle.refusal.specs.Result.{Reply}
use Rattle.refusal.proofs.BoolLaws.{and_true}
use Rattle.refusal.proofs.ListLaws.{flat_map_same}
use Rattle.text.specs.Bytes.{front_of, is_line_feed, is_carriage_return}
use Rattle.text.specs.Lines.{TextLine, content_of, line_length, line_of, lines_from, text_lines}
use Rattle.text.specs.Endings.{NoReturn, with_returns, contents, feed_line_of, feed_lines_from, FeedsEndLines, ReturnsKeepContents, ContentsDecide, ReturnsChangeNothing}
use Rattle.text.proofs.ContentLaws.{ends_feed, ends_return, ends_other, content_on, content_none, length_ended, length_on, length_within}

-- a text without CR: its first byte, and the others
first_other : (b : ℕ) (s : List ℕ) → NoReturn (b ∷ s) → (is_carriage_return b ≡ false) × NoReturn s
unfolding every
first_other b s h = let q = and_true (not (is_carriage_return b)) (every (λ c. not (is_carriage_return c)) s) h in (not-true (is_carriage_return b) q.0, q.1)

-- ---- without CR
content_feed : (s : List ℕ) → NoReturn s → content_of s ≡ front_of (λ b. not (is_line_feed b)) s
unfolding content_of front_of
content_feed [] h = refl
content_feed (b ∷ s) h = let q = first_other b s h in go (is_line_feed b) refl q.0 (content_feed s q.1)
  where
    go : (t : Bool) → is_line_feed b ≡ t → is_carriage_return b ≡ false → content_of s ≡ front_of (λ c. not (is_line_feed c)) s → content_of (b ∷ s) ≡ front_of (λ c. not (is_line_feed c)) (b ∷ s)
    go true e r ih = rw (e, content_none (b ∷ s) (omega (arith, ends_feed (b ∷ s) e)))
    go false e r ih = rw e (content_on b s (ends_other b s e r) ∙ ap (λ (l : List ℕ). b ∷ l) ih)

length_feed : (s : List ℕ) → NoReturn s → line_length s ≡ length (take (suc (length (content_of s))) s)
length_feed [] h = omega (arith, length_within [])
length_feed (b ∷ s) h = let q = first_other b s h in go (is_line_feed b) refl q.0 (length_feed s q.1)
  where
    go : (t : Bool) → is_line_feed b ≡ t → is_carriage_return b ≡ false → line_length s ≡ length (take (suc (length (content_of s))) s) → line_length (b ∷ s) ≡ length (take (suc (length (content_of (b ∷ s)))) (b ∷ s))
    go true e r ih = rw (content_none (b ∷ s) (omega (arith, ends_feed (b ∷ s) e))) (length_ended 0 (b ∷ s) (ends_feed (b ∷ s) e))
    go false e r ih = rw (content_on b s (ends_other b s e r)) (length_on b s (ends_other b s e r) ∙ ap suc ih)

lines_feed : (begins : Bool) (at : ℕ) (s : List ℕ) → NoReturn s → lines_from begins at s ≡ feed_lines_from begins at s
unfolding lines_from feed_lines_from line_of feed_line_of
lines_feed begins at [] h = refl
lines_feed begins at (b ∷ s) h = rw (lines_feed (is_line_feed b) (at + 1) s (first_other b s h).1, length_feed (b ∷ s) h, content_feed (b ∷ s) h)

pub feeds_end_lines : FeedsEndLines
feeds_end_lines = lines_feed true 0

-- ---- with a CR put in front of every LF
-- the contents of the lines that begin in the bytes s, which stand at `at`
abbrev contents_from : Bool → ℕ → List ℕ → List (List ℕ)
contents_from begins at s = map (λ l. l.bytes) (lines_from begins at s)

contents_none : (begins : Bool) (at : ℕ) → contents_from begins at [] ≡ []
unfolding lines_from
contents_none begins at = refl

contents_cons : (begins : Bool) (at b : ℕ) (s : List ℕ) → contents_from begins at (b ∷ s) ≡ cond begins (content_of (b ∷ s) ∷ contents_from (is_line_feed b) (at + 1) s) (contents_from (is_line_feed b) (at + 1) s)
unfolding lines_from line_of
contents_cons true at b s = refl
contents_cons false at b s = refl

module _ (b : ℕ) (s : List ℕ) where
  returns_feed : is_line_feed b ≡ true → with_returns (b ∷ s) ≡ 13 ∷ b ∷ with_returns s
  unfolding with_returns
  returns_feed e = rw e

  returns_other : is_line_feed b ≡ false → with_returns (b ∷ s) ≡ b ∷ with_returns s
  unfolding with_returns
  returns_other e = rw e

-- CR, and the LF behind it, end a line, and a line begins behind them
module _ (b : ℕ) (s : List ℕ) (e : is_line_feed b ≡ true) where
  return_content : content_of (13 ∷ b ∷ s) ≡ []
  unfolding is_line_feed is_carriage_return
  return_content = content_none (13 ∷ b ∷ s) (omega (arith, ends_return (13 ∷ b ∷ s) refl e))

  return_lines : (at : ℕ) → contents_from (is_line_feed 13) at (b ∷ s) ≡ contents_from true (at + 1) s
  unfolding is_line_feed
  return_lines at = contents_cons false at b s ∙ rw e

content_returns : (s : List ℕ) → NoReturn s → content_of (with_returns s) ≡ content_of s
unfolding with_returns
content_returns [] h = refl
content_returns (b ∷ s) h = let q = first_other b s h in go (is_line_feed b) refl q.0 (content_returns s q.1)
  where
    go : (t : Bool) → is_line_feed b ≡ t → is_carriage_return b ≡ false → content_of (with_returns s) ≡ content_of s → content_of (with_returns (b ∷ s)) ≡ content_of (b ∷ s)
    go true e r ih = rw (e, return_content b (with_returns s) e, content_none (b ∷ s) (omega (arith, ends_feed (b ∷ s) e)))
    go false e r ih = rw e (content_on b (with_returns s) (ends_other b (with_returns s) e r) ∙ rw (ih, content_on b s (ends_other b s e r)))

contents_returns : (begins : Bool) (at on : ℕ) (s : List ℕ) → NoReturn s → contents_from begins on (with_returns s) ≡ contents_from begins at s
unfolding with_returns
contents_returns begins at on [] h = contents_none begins on ∙ sym (contents_none begins at)
contents_returns begins at on (b ∷ s) h = go (is_line_feed b) refl (content_returns (b ∷ s) h) λ begun from. contents_returns begun (at + 1) from s (first_other b s h).1
  where
    go : (t : Bool) → is_line_feed b ≡ t → content_of (with_returns (b ∷ s)) ≡ content_of (b ∷ s) → ((begun : Bool) (from : ℕ) → contents_from begun from (with_returns s) ≡ contents_from begun (at + 1) s) → contents_from begins on (with_returns (b ∷ s)) ≡ contents_from begins at (b ∷ s)
    go true e c ih = rw (contents_cons begins at b s, returns_feed b s e, contents_cons begins on 13 (b ∷ with_returns s), ← c, returns_feed b s e, return_lines b (with_returns s) e (on + 1), ih true (on + 1 + 1), e)
    go false e c ih = rw (contents_cons begins at b s, returns_other b s e, contents_cons begins on b (with_returns s), ← c, returns_other b s e, e, ih false (on + 1))

pub returns_keep_contents : ReturnsKeepContents
returns_keep_contents bytes None = sym (contents_returns true 0 0 bytes None)

returns_longer : (s : List ℕ) → length s ≤ length (with_returns s)
unfolding with_returns
returns_longer [] = omega arith
returns_longer (b ∷ s) = go (is_line_feed b) (returns_longer s)
  where
    go : (t : Bool) → length s ≤ length (with_returns s) → suc (length s) ≤ length (cond t (13 ∷ b ∷ with_returns s) (b ∷ with_returns s))
    go true ih = omega arith
    go false ih = omega arith

-- ---- what goes by the contents of the lines
pub by_contents : {A : Type 0} {f : TextLine → List A} → ((l m : TextLine) → l.bytes ≡ m.bytes → f l ≡ f m) → (a b : List ℕ) → contents a ≡ contents b → flat_map f (text_lines a) ≡ flat_map f (text_lines b)
by_contents moved a b same = flat_map_same (λ l. l.bytes) moved (text_lines a) (text_lines b) same

pub returns_change_nothing : {A : Type 0} (read : List ℕ → Reply A) → ContentsDecide read → ReturnsChangeNothing read
returns_change_nothing read decides bytes x None short =
    let same = returns_keep_contents bytes None in
    (decides bytes (with_returns bytes) x same short, decides (with_returns bytes) bytes x (sym same) (omega (arith, returns_longer bytes)))
