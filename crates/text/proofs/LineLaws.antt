-- A file's lines: the turn of a loop over them, and the letter that leads a line. Assumes nothing.
use Prim.Native.Nat.{ℕ, suc, ◌+◌, ◌≤◌, ◌<◌}
use mathlib.Core.Path.{◌≡◌, refl, ap, ◌∙◌}
use mathlib.Core.List.{List, [], ◌∷◌}
use mathlib.Core.Bool.{Bool, true, false, ◌&&◌}
use native.Mathlib.Decide.{dec_lt}
use native.Mathlib.Numerals.{add-one}
use native.Mathlib.Omega.{arith}
use lib.ListN.{length, get_or, drop, length-drop, drop_of_length-le}
use lib.Dec.{eqb}
use lib.Seq.{drop-cons, drop-drop}
use Rattle.refusal.specs.Lists.{every}
use Rattle.refusal.proofs.BoolLaws.{and_true}
use Rattle.refusal.proofs.ResultLaws.{never}
use Rattle.text.specs.Bytes.{is_line_feed, is_carriage_return, is_space}
use Rattle.text.specs.Lines.{TextLine, line_length, line_of, lines_from, leads}
use Rattle.text.specs.declared.Class.TheVariants.{Space}
use Rattle.text.specs.Scan.{is_of}
use Rattle.text.proofs.RunLaws.{every_end}
use Rattle.text.proofs.ContentLaws.{ends_feed, ends_return, ends_not, length_ended, length_on}

-- the lines behind the one that goes on in the bytes s, which stand at `at`
abbrev later : ℕ → List ℕ → List TextLine
later at s = lines_from true (at + line_length s) (drop (line_length s) s)

lines_later : (s : List ℕ) (at : ℕ) → lines_from false at s ≡ later at s
unfolding lines_from
lines_later [] at = let h : 0 ≤ line_length [] = omega arith in rw (drop_of_length-le [] h)
lines_later (b ∷ s) at = go (is_line_feed b) (is_carriage_return b && is_line_feed (get_or s 0 0)) refl refl (lines_later s (at + 1))
  where
    shift : (n : ℕ) → at + 1 + n ≡ at + suc n
    shift n = omega arith

    go : (t u : Bool) → is_line_feed b ≡ t → (is_carriage_return b && is_line_feed (get_or s 0 0)) ≡ u → lines_from false (at + 1) s ≡ later (at + 1) s → lines_from false at (b ∷ s) ≡ later at (b ∷ s)
    go true u e k ih = rw (length_ended 0 (b ∷ s) (ends_feed (b ∷ s) e), e)
    go false true e k ih = rw (length_ended 1 (b ∷ s) (ends_return (b ∷ s) e k), e) (ih ∙ rw (length_ended 0 s (ends_feed s (and_true (is_carriage_return b) _ k).1), shift))
    go false false e k ih = rw (length_on b s (ends_not (b ∷ s) e k), e) (ih ∙ rw shift)

pub lines_cons : (s : List ℕ) (at : ℕ) → 0 < length s → lines_from true at s ≡ line_of at s ∷ later at s
unfolding lines_from
lines_cons [] at h = absurd (omega arith)
lines_cons (b ∷ s) at h = ap (λ (l : List TextLine). line_of at (b ∷ s) ∷ l) (lines_later (b ∷ s) at)

-- the line at a place of f
abbrev pub line_from : List ℕ → ℕ → TextLine
line_from f at = line_of at (drop at f)

-- a turn of a loop over the lines of f
pub lines_turn : (f : List ℕ) (at : ℕ) → at < length f → lines_from true at (drop at f) ≡ line_from f at ∷ lines_from true (line_from f at).next (drop (line_from f at).next f)
unfolding line_of
lines_turn f at h =
    let n = line_length (drop at f) in
    lines_cons (drop at f) at (omega (arith, length-drop at f)) ∙ ap (λ (s : List ℕ). line_from f at ∷ lines_from true (at + n) s) (drop-drop n at f)

pub lines_end : (f : List ℕ) (at : ℕ) → length f ≤ at → lines_from true at (drop at f) ≡ []
unfolding lines_from
lines_end f at h = rw (drop_of_length-le f h)

-- a line that is not blank has a byte
pub not_at_end : (line : List ℕ) (at : ℕ) → every (is_of Space) (drop at line) ≡ false → at < length line
not_at_end line at e = elim (dec_lt at (length line)) [
  | yes h ↦ h
  | no h ↦ never (cc (e, every_end (is_of Space) line at (omega arith)))
]

-- the letter that leads a line
module _ (f : List ℕ) (at b : ℕ) where
  pub leads_none : length f ≤ at → leads b (drop at f) ≡ false
  unfolding leads
  leads_none h = rw (drop_of_length-le f h)

  pub leads_alone : at + 1 ≡ length f → leads b (drop at f) ≡ eqb b (get_or f at 0)
  unfolding leads
  leads_alone e =
      let h : at < length f = omega arith in
      let l : length f ≤ suc at = omega arith in
      rw (drop-cons f at 0 h, drop_of_length-le f l)

  pub leads_more : at + 1 < length f → leads b (drop at f) ≡ (eqb b (get_or f at 0) && is_space (get_or f (at + 1) 0))
  unfolding leads
  leads_more h =
      let k : at < length f = omega arith in
      let l : suc at < length f = omega arith in
      rw (add-one at, drop-cons f at 0 k, drop-cons f (suc at) 0 l)
