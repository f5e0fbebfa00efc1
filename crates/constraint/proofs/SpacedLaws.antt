-- Words, each behind a space: a test that their bytes pass, and that they are the tokens of the text. Assumes nothing.
use Prim.Native.Nat.{ℕ, ◌+◌, ◌≤◌}
use Prim.Native.Char.{code}
use mathlib.Core.Path.{◌≡◌, refl, ap, ◌∙◌}
use mathlib.Core.Bool.{Bool, true, not}
use mathlib.Core.List.{List, [], ◌∷◌, ◌++◌, flat_map}
use native.Mathlib.Omega.{arith}
use lib.ListN.{length, length-append}
use Rattle.refusal.specs.Lists.{every}
use Rattle.refusal.proofs.ListLaws.{every_append, every_weaken}
use Rattle.text.specs.Bytes.{front_of, is_space}
use Rattle.text.specs.Lines.{Token, tokens_from}
use Rattle.text.specs.Spelling.{is_name}
use Rattle.text.proofs.NameLaws.{name_length_lem}
use Rattle.text.proofs.TokenLaws.{token_bytes}
use Rattle.text.proofs.AppendLaws.{tokens_none, tokens_space, tokens_front}
use Rattle.text.proofs.SeenLaws.{is_seen, seen_solid, name_seen}
use Rattle.constraint.specs.Sound.{Each}

-- a word: bytes that are seen, one at least
pub record SeenWord (s : List ℕ) : Type 0 where
  pub seen : every is_seen s ≡ true
  pub some_bytes : 1 ≤ length s

pub word_name : (s : List ℕ) → is_name s ≡ true → SeenWord s
word_name s e = record { seen = name_seen s e; some_bytes = name_length_lem s e }

-- one with more bytes behind it that are seen
pub word_more : (s t : List ℕ) → SeenWord s → every is_seen t ≡ true → SeenWord (s ++ t)
word_more s t w e = record { seen = every_append is_seen s t w.seen e; some_bytes = omega (arith, w.some_bytes, length-append s t) }

-- words, each behind a space
abbrev pub behind_spaces : List (List ℕ) → List ℕ
behind_spaces = flat_map (λ s. code " " ∷ s)

pub spaced_every : (p : ℕ → Bool) → p (code " ") ≡ true → ((b : ℕ) → is_seen b ≡ true → p b ≡ true) → (ss : List (List ℕ)) → Each SeenWord ss → every p (behind_spaces ss) ≡ true
unfolding flat_map every
spaced_every p h f [] w = refl
spaced_every p h f (s ∷ ss) w = rw h (every_append p s (behind_spaces ss) (every_weaken is_seen p f s w.0.seen) (spaced_every p h f ss w.1))

-- no word goes on in those behind it
spaced_stop : (ss : List (List ℕ)) → front_of (λ b. not (is_space b)) (behind_spaces ss) ≡ []
unfolding flat_map front_of is_space
spaced_stop [] = refl
spaced_stop (s ∷ ss) = refl

-- their tokens, where the text stands at `at`
unfoldable pub spaced_tokens : ℕ → List (List ℕ) → List Token
spaced_tokens at [] = []
spaced_tokens at (s ∷ ss) = record { start = at + 1; bytes = s } ∷ spaced_tokens (at + 1 + length s) ss

pub spaced_tokens_lem : (ss : List (List ℕ)) (at : ℕ) → Each SeenWord ss → tokens_from true at (behind_spaces ss) ≡ spaced_tokens at ss
unfolding flat_map is_space spaced_tokens
spaced_tokens_lem [] at w = rw tokens_none
spaced_tokens_lem (s ∷ ss) at w =
    tokens_space (s ++ behind_spaces ss) at (code " ") refl
    ∙ tokens_front s (behind_spaces ss) (at + 1) w.0.some_bytes (every_weaken is_seen (λ b. not (is_space b)) seen_solid s w.0.seen) (spaced_stop ss)
    ∙ rw (spaced_tokens_lem ss (at + 1 + length s) w.1)

pub spaced_bytes : (at : ℕ) (ss : List (List ℕ)) → token_bytes (spaced_tokens at ss) ≡ ss
unfolding spaced_tokens
spaced_bytes at [] = refl
spaced_bytes at (s ∷ ss) = ap (λ (l : List (List ℕ)). s ∷ l) (spaced_bytes (at + 1 + length s) ss)
