-- Lines of a letter and words, joined by LF, say those letters and words. Assumes nothing.
use Prim.Native.Nat.{ℕ, suc, ◌+◌}
use Prim.Native.Char.{code}
use mathlib.Core.Path.{◌≡◌, refl, ap, ◌∙◌}
use mathlib.Core.Bool.{Bool, true, false}
use mathlib.Core.List.{List, [], ◌∷◌, ◌++◌, flat_map, append-nil}
use native.Mathlib.Omega.{arith}
use lib.Dec.{eqb}
use lib.ListN.{length, length-append}
use borrow.Author.Tests.{not-true}
use Rattle.refusal.specs.Lists.{every}
use Rattle.refusal.proofs.BoolLaws.{and_one}
use Rattle.text.specs.Bytes.{is_space, is_allowed}
use Rattle.text.specs.Lines.{TextLine, line_of, lines_from, leads}
use Rattle.text.proofs.ContentLaws.{content_all}
use Rattle.text.proofs.TokenLaws.{token_bytes}
use Rattle.text.proofs.ReadingLaws.{IsAllowed}
use Rattle.text.proofs.AppendLaws.{lines_front, lines_last}
use Rattle.text.proofs.SeenLaws.{is_seen, seen_allowed, seen_solid}
use Rattle.constraint.specs.Sound.{Each}
use Rattle.constraint.proofs.SpacedLaws.{SeenWord, spaced_every, spaced_tokens_lem, spaced_bytes}
use Rattle.plain.specs.Says.{Said, leading_letter, is_skipped, tokens_behind, said_by, Pairwise}
use Rattle.clean_text.specs.Text.{spaced, line_text, fed}
use Rattle.clean_text.proofs.Weights.{said_weight, saids_weight, length_joined}

-- a letter that lines are led by
abbrev IsLetter : ℕ → Type 0
IsLetter b = (leading_letter (b ∷ []) ≡ b) × (is_seen b ≡ true) × (eqb b (code "#") ≡ false) × (eqb b 0 ≡ false)

-- a line of such a letter, and words
pub record Spoken (text : List ℕ) (s : Said) : Type 0 where
  pub letter : IsLetter s.letter
  pub words : Each SeenWord s.tokens
  pub is : text ≡ line_text (s.letter ∷ []) s.tokens

-- ---- one line
leading : (b : ℕ) (ss : List (List ℕ)) → leading_letter (line_text (b ∷ []) ss) ≡ leading_letter (b ∷ [])
unfolding line_text spaced leading_letter leads flat_map is_space
leading b [] = refl
leading b (s ∷ ss) = simp and_one

module _ (text : List ℕ) (s : Said) (h : Spoken text s) where
  line_every : (p : ℕ → Bool) → p (code " ") ≡ true → ((c : ℕ) → is_seen c ≡ true → p c ≡ true) → every p text ≡ true
  unfolding every line_text spaced
  line_every p e f = rw (h.is, f s.letter h.letter.1) (spaced_every p e f s.tokens h.words)

  line_allowed : every is_allowed text ≡ true
  unfolding is_allowed
  line_allowed = line_every is_allowed refl seen_allowed

  not_skipped : is_skipped text ≡ false
  unfolding is_skipped every line_text
  not_skipped = rw (h.is, not-true (is_space s.letter) (seen_solid s.letter h.letter.1), h.letter.2)

  line_tokens : (l : TextLine) → l.bytes ≡ text → tokens_behind l ≡ s.tokens
  unfolding tokens_behind line_text spaced
  line_tokens l e = rw (e, h.is) (ap token_bytes (spaced_tokens_lem s.tokens (l.start + 1) h.words) ∙ spaced_bytes _ s.tokens)

  line_says : (l : TextLine) → l.bytes ≡ text → said_by l ≡ s ∷ []
  unfolding said_by
  line_says l e = rw (line_tokens l e, e, not_skipped, h.is, leading s.letter s.tokens, h.letter.0)

  line_weight : suc (length text) ≡ said_weight s
  unfolding line_text spaced
  line_weight = rw h.letter.3 (omega (arith, ap length h.is, length_joined (code " ") s.tokens))

  -- where it is the last line of a text
  last_bytes : (at : ℕ) → (line_of at text).bytes ≡ text
  unfolding line_of
  last_bytes at = content_all text line_allowed

  last_line : (at : ℕ) → lines_from true at text ≡ line_of at text ∷ []
  unfolding line_text
  last_line at = lines_last text at line_allowed (omega (arith, ap length h.is))

-- ---- a text of lines
-- lines say these letters and words, and their bytes are allowed
abbrev Say : List TextLine → List Said → Type 0
Say ls ss = (flat_map said_by ls ≡ ss) × Each IsAllowed ls

say_more : (l : TextLine) (ls : List TextLine) (t : List ℕ) (s : Said) (ss : List Said) → l.bytes ≡ t → Spoken t s → Say ls ss → Say (l ∷ ls) (s ∷ ss)
unfolding flat_map
say_more l ls t s ss e h p = (rw (line_says t s h l e, p.0), (rw e (line_allowed t s h), p.1))

-- each behind an LF but the first
abbrev pub Speaks : ℕ → List ℕ → List (List ℕ) → List Said → Type 0
Speaks at t ts ss = Say (lines_from true at (t ++ fed ts)) ss × (suc (length (t ++ fed ts)) ≡ saids_weight ss)

pub text_says : (t : List ℕ) (ts : List (List ℕ)) (s : Said) (ss : List Said) (at : ℕ) → Pairwise Spoken (t ∷ ts) (s ∷ ss) → Speaks at t ts (s ∷ ss)
unfolding fed flat_map
text_says t [] s [] at p = rw append-nil (rw (last_line t s p.0 at) (say_more (line_of at t) [] t s [] (last_bytes t s p.0 at) p.0 (refl, tt)), omega (arith, line_weight t s p.0))
text_says t [] s (r ∷ ss) at p = absurd p.1
text_says t (u ∷ ts) s [] at p = absurd p.1
text_says t (u ∷ ts) s (r ∷ ss) at p =
    let next = at + suc (length t) in
    let q = text_says u ts r ss next p.1 in
    (rw (lines_front t (u ++ fed ts) at (line_allowed t s p.0)) (say_more _ (lines_from true next (u ++ fed ts)) t s (r ∷ ss) refl p.0 q.0), omega (arith, q.1, line_weight t s p.0, length-append t (code "\n" ∷ u ++ fed ts)))
