-- What is cut out of a text takes no more than the text: its lines, the tokens of a line, and so what the lines say. Assumes nothing.
use Prim.Native.Nat.{ℕ, suc, ◌+◌, ◌≤◌}
use Prim.Native.Char.{code}
use mathlib.Core.Path.{◌≡◌, refl}
use mathlib.Core.Bool.{Bool, true, false, cond}
use mathlib.Core.List.{List, [], ◌∷◌, ◌++◌, map, flat_map}
use native.Mathlib.Omega.{arith}
use lib.Dec.{eqb}
use lib.ListN.{length, drop}
use Rattle.refusal.proofs.ResultLaws.{never}
use Rattle.refusal.proofs.BoolLaws.{and_true}
use Rattle.text.specs.Bytes.{front_of, is_space, is_line_feed}
use Rattle.text.specs.Lines.{TextLine, terminator_length, content_of, line_of, lines_from, text_lines, Token, token_of, tokens_from, leads}
use Rattle.text.proofs.ContentLaws.{ends_feed}
use Rattle.text.proofs.AppendLaws.{tokens_none, tokens_space}
use Rattle.plain.specs.Says.{leading_letter, is_skipped, tokens_behind, said_by, said}
use Rattle.clean_text.proofs.Weights.{texts_weight, said_weight, saids_weight}

-- the bytes of lines and of tokens, with one more for each
abbrev lines_weight : List TextLine → ℕ
lines_weight ls = texts_weight (map (λ l. l.bytes) ls)

abbrev tokens_weight : List Token → ℕ
tokens_weight ts = texts_weight (map (λ t. t.bytes) ts)

-- the weight of what begins in s is at most its bytes and one, and that of what begins behind the piece which goes on in s leaves room for that piece
abbrev Cut : (Bool → ℕ) → List ℕ → List ℕ → Type 0
Cut weightFrom piece s = (weightFrom true ≤ suc (length s)) × (weightFrom false + length piece ≤ length s)

-- the lines of a text
abbrev LinesCut : List ℕ → ℕ → Type 0
LinesCut s at = Cut (λ begins. lines_weight (lines_from begins at s)) (content_of s) s

cut_lines : (s : List ℕ) (at : ℕ) → LinesCut s at
unfolding lines_from line_of content_of
cut_lines [] at = (omega arith, omega arith)
cut_lines (b ∷ s) at = go (is_line_feed b) (eqb (terminator_length (b ∷ s)) 0) refl refl (cut_lines s (at + 1))
  where
    go : (t u : Bool) → is_line_feed b ≡ t → eqb (terminator_length (b ∷ s)) 0 ≡ u → LinesCut s (at + 1) → LinesCut (b ∷ s) at
    go true u e k ih = rw (e, ends_feed (b ∷ s) e) (omega arith, omega arith)
    go false true e k ih = rw (e, k) (omega arith, omega arith)
    go false false e k ih = rw (e, k) (omega arith, omega arith)

-- the tokens of a text
abbrev TokensCut : List ℕ → ℕ → Type 0
TokensCut s at = Cut (λ begins. tokens_weight (tokens_from begins at s)) (token_of at s).bytes s

cut_tokens : (s : List ℕ) (at : ℕ) → TokensCut s at
unfolding tokens_from token_of front_of
cut_tokens [] at = (omega arith, omega arith)
cut_tokens (b ∷ s) at = go (is_space b) refl (cut_tokens s (at + 1))
  where
    go : (t : Bool) → is_space b ≡ t → TokensCut s (at + 1) → TokensCut (b ∷ s) at
    go true e ih = rw e (omega arith, omega arith)
    go false e ih = rw e (omega arith, omega arith)

-- the tokens of a line that a letter leads, with that letter
behind_letter : (b at : ℕ) (s : List ℕ) → leads b s ≡ true → suc (tokens_weight (tokens_from true at (drop 1 s))) ≤ length s
unfolding leads
behind_letter b at [] e = never (cc e)
behind_letter b at (c ∷ []) e = rw tokens_none (omega arith)
behind_letter b at (c ∷ d ∷ s) e = rw (tokens_space s at d (and_true (eqb b c) (is_space d) e).1) (omega (arith, cut_tokens s (at + 1)))

-- ---- what the lines of a text say
-- a line that a letter leads
module _ (l : TextLine) where
  abbrev Costs : ℕ → Type 0
  Costs letter = said_weight (record { letter = letter; tokens = tokens_behind l }) ≤ suc (length l.bytes)

  by_test : (b later : ℕ) (t : Bool) → leads b l.bytes ≡ t → eqb b 0 ≡ false → Costs later → Costs (cond t b later)
  unfolding tokens_behind
  by_test b later true e z h = rw z (omega (arith, behind_letter b (l.start + 1) l.bytes e))
  by_test b later false e z h = h

  by : (b later : ℕ) → eqb b 0 ≡ false → Costs later → Costs (cond (leads b l.bytes) b later)
  by b later = by_test b later (leads b l.bytes) refl

  line_cost : Costs (leading_letter l.bytes)
  unfolding leading_letter
  line_cost = by (code "v") _ refl (by (code "e") _ refl (by (code "d") _ refl (by (code "c") _ refl (by (code "p") 0 refl (omega arith)))))

saids_cost : (ls : List TextLine) → saids_weight (flat_map said_by ls) ≤ lines_weight ls
unfolding flat_map said_by
saids_cost [] = omega arith
saids_cost (l ∷ ls) = go (is_skipped l.bytes) (saids_cost ls)
  where
    go : (t : Bool) → saids_weight (flat_map said_by ls) ≤ lines_weight ls → saids_weight (cond t [] (record { letter = leading_letter l.bytes; tokens = tokens_behind l } ∷ []) ++ flat_map said_by ls) ≤ suc (length l.bytes) + lines_weight ls
    go true ih = omega arith
    go false ih = omega (arith, ih, line_cost l)

pub said_cost : (bytes : List ℕ) → saids_weight (said bytes) ≤ suc (length bytes)
unfolding said
said_cost bytes = omega (arith, saids_cost (text_lines bytes), (cut_lines bytes 0).0)
