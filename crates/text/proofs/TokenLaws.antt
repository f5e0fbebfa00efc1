-- A line's tokens: the turn of a loop over them, their bytes, and the parts of a token before and behind a byte. Assumes nothing.
use Prim.Native.Nat.{ℕ, suc, ◌+◌, ◌≤◌, ◌<◌}
use mathlib.Core.Path.{◌≡◌, refl, ap, ◌∙◌}
use mathlib.Core.List.{List, [], ◌∷◌, ◌++◌, map, nil≢cons, cons≢nil, head-eq_of_cons-eq, tail-eq_of_cons-eq}
use mathlib.Core.Bool.{Bool, true, false, cond, not, ◌&&◌}
use native.Mathlib.Nat.{add-zero}
use native.Mathlib.Omega.{arith}
use lib.ListN.{length, get_or, take, drop, drop_of_length-le, length-drop, length-append}
use lib.Seq.{drop-cons, drop-drop, drop_at}
use Rattle.text.specs.Bytes.{front_of, is_space}
use Rattle.text.specs.Lines.{TextLine, Token, token_of, tokens_from, arguments, line_end}
use Rattle.text.specs.Spelling.{up_to, behind}
use Rattle.text.specs.declared.Class.TheVariants.{Until, Space, Solid}
use Rattle.text.specs.Scan.{is_of, past, line_at}
use Rattle.text.proofs.RunLaws.{past_more, past_ge, past_le, past_fails, run_part, every_of_run, scan_bounds}
use lib.Dec.{eqb}
use borrow.Author.Tests.{eqb-true, eq-eqb}
use Rattle.refusal.specs.Lists.{every}
use Rattle.refusal.proofs.BoolLaws.{and_true}

abbrev solid : ℕ → Bool
solid b = not (is_space b)

-- the tokens behind the run at the front of the bytes s, which stand at `at`
abbrev later : (ℕ → Bool) → ℕ → List ℕ → List Token
later p at s = tokens_from true (at + length (front_of p s)) (drop (length (front_of p s)) s)

shift : (a n : ℕ) → a + 1 + n ≡ a + suc n
shift a n = omega arith

-- from white space
tokens_spaces : (s : List ℕ) (at : ℕ) → tokens_from true at s ≡ later is_space at s
unfolding tokens_from front_of
tokens_spaces [] at = refl
tokens_spaces (b ∷ s) at = go (is_space b) refl (tokens_spaces s (at + 1))
  where
    go : (t : Bool) → is_space b ≡ t → tokens_from true (at + 1) s ≡ later is_space (at + 1) s → tokens_from true at (b ∷ s) ≡ later is_space at (b ∷ s)
    go true e ih = rw e (ih ∙ rw shift)
    go false e ih = rw (e, add-zero, e)

-- from inside a token
tokens_rest : (s : List ℕ) (at : ℕ) → tokens_from false at s ≡ later solid at s
unfolding tokens_from front_of
tokens_rest [] at = refl
tokens_rest (b ∷ s) at = go (is_space b) refl (tokens_rest s (at + 1))
  where
    go : (t : Bool) → is_space b ≡ t → tokens_from false (at + 1) s ≡ later solid (at + 1) s → tokens_from false at (b ∷ s) ≡ later solid at (b ∷ s)
    go true e ih = rw (e, add-zero, e)
    go false e ih = rw e (ih ∙ rw shift)

-- from the start of one
pub tokens_cons : (s : List ℕ) (at b : ℕ) → is_space b ≡ false → tokens_from true at (b ∷ s) ≡ token_of at (b ∷ s) ∷ later solid at (b ∷ s)
unfolding tokens_from
tokens_cons s at b e = rw e (ap (λ (l : List Token). token_of at (b ∷ s) ∷ l) (rw e at (tokens_rest (b ∷ s) at)))

-- the bytes of tokens
abbrev pub token_bytes : List Token → List (List ℕ)
token_bytes = map (λ t. t.bytes)

-- they do not depend on where the tokens stand
tokens_moved : (s : List ℕ) (begins : Bool) (at on : ℕ) → token_bytes (tokens_from begins at s) ≡ token_bytes (tokens_from begins on s)
unfolding tokens_from token_of
tokens_moved [] begins at on = refl
tokens_moved (b ∷ s) begins at on = go (begins && not (is_space b)) (tokens_moved s (is_space b) (at + 1) (on + 1))
  where
    go : (t : Bool) → token_bytes (tokens_from (is_space b) (at + 1) s) ≡ token_bytes (tokens_from (is_space b) (on + 1) s) → token_bytes (cond t (token_of at (b ∷ s) ∷ tokens_from (is_space b) (at + 1) s) (tokens_from (is_space b) (at + 1) s)) ≡ token_bytes (cond t (token_of on (b ∷ s) ∷ tokens_from (is_space b) (on + 1) s) (tokens_from (is_space b) (on + 1) s))
    go true ih = ap (λ (ts : List (List ℕ)). front_of solid (b ∷ s) ∷ ts) ih
    go false ih = ih

pub arguments_moved : (l m : TextLine) → l.bytes ≡ m.bytes → token_bytes (arguments l) ≡ token_bytes (arguments m)
arguments_moved l m e = rw e (tokens_moved (drop 1 m.bytes) true (l.start + 1) (m.start + 1))

module _ (f : List ℕ) (i : ℕ) where
  tokens_skip : tokens_from true i (drop i f) ≡ tokens_from true (past is_space f i) (drop (past is_space f i) f)
  unfolding past
  tokens_skip = tokens_spaces (drop i f) i ∙ rw drop-drop

  pub tokens_end : length f ≤ i → tokens_from true i (drop i f) ≡ []
  unfolding tokens_from
  tokens_end h = rw (drop_of_length-le f h)

  tokens_at : i < length f → is_space (get_or f i 0) ≡ false → tokens_from true i (drop i f) ≡ record { start = i; bytes = drop i (take (past solid f i) f) } ∷ tokens_from true (past solid f i) (drop (past solid f i) f)
  unfolding past token_of
  tokens_at h e = rw (← run_part solid f i (omega arith)) ((rw (← drop-cons f i 0 h) at (tokens_cons (drop (suc i) f) i (get_or f i 0) e)) ∙ rw drop-drop)

-- a turn of a loop over the tokens of a line: from i on, white space ends at b, and the token there ends at e
module _ (line : List ℕ) (i b : ℕ) (hb : b ≡ past (is_of Space) line i) where
  skipped : b ≡ past is_space line i
  unfolding is_of
  skipped = hb

  pub tokens_done : b ≡ length line → tokens_from true i (drop i line) ≡ []
  tokens_done h = tokens_skip line i ∙ rw (← skipped) (tokens_end line b (omega arith))

  module _ (h : b < length line) (e : ℕ) (he : e ≡ past (is_of Solid) line b) where
    at_token_lem : is_space (get_or line b 0) ≡ false
    at_token_lem = rw skipped (past_fails is_space line i (rw skipped at h))

    stopped : e ≡ past solid line b
    unfolding is_of
    stopped = he

    pub tokens_turn : tokens_from true i (drop i line) ≡ record { start = b; bytes = drop b (take e line) } ∷ tokens_from true e (drop e line)
    tokens_turn = tokens_skip line i ∙ rw (← skipped, stopped) (tokens_at line b h at_token_lem)

    -- the token lies within the line, and is not empty; it has no white space
    pub token_within : (i ≤ b) × (b < e) × (e ≤ length line) × (every (is_of Solid) (drop b (take e line)) ≡ true)
    token_within =
        let s : solid (get_or line b 0) ≡ true = rw at_token_lem in
        let m = past_more solid line b h s in
        (omega (arith, past_ge (is_of Space) line i), omega (arith, past_ge solid line (b + 1), stopped), omega (arith, past_le solid line b (omega arith), stopped), rw (he, ← run_part (is_of Solid) line b (omega arith)) (every_of_run (is_of Solid) (drop b line)))

-- the first of them and those behind it, and no token
pub first_token : (ts : List Token) (w : List ℕ) (ws : List (List ℕ)) → token_bytes ts ≡ w ∷ ws → (t : Token) × (rest : List Token) × (ts ≡ t ∷ rest) × (t.bytes ≡ w) × (token_bytes rest ≡ ws)
first_token [] w ws e = absurd (nil≢cons e)
first_token (t ∷ ts) w ws e = (t, ts, refl, head-eq_of_cons-eq e, tail-eq_of_cons-eq e)

pub no_token : (ts : List Token) → token_bytes ts ≡ [] → ts ≡ []
no_token [] e = refl
no_token (t ∷ ts) e = absurd (cons≢nil e)

-- the parts of a token before and behind its first byte c, which a scan from `at` finds at m
module _ (f : List ℕ) (at c m : ℕ) (h : at ≤ length f) (hm : m ≡ past (is_of (Until c)) f at) where
  pub find_bounds : (at ≤ m) × (m ≤ length f)
  find_bounds = scan_bounds (is_of (Until c)) f at m h hm

  pub up_to_lem : up_to c (drop at f) ≡ drop at (take m f)
  unfolding up_to is_of
  up_to_lem = run_part _ f at h ∙ rw hm

  pub behind_it : behind c (drop at f) ≡ drop (m + 1) f
  unfolding behind up_to past is_of
  behind_it = let z : at + suc (length (up_to c (drop at f))) ≡ m + 1 = omega arith in drop-drop (suc (length (up_to c (drop at f)))) at f ∙ rw z

-- a text with bytes behind its first byte c is the part in front of c, c, and the part behind it
pub parts_join : (c : ℕ) (s : List ℕ) → 1 ≤ length (behind c s) → s ≡ up_to c s ++ (c ∷ []) ++ behind c s
unfolding up_to behind front_of
parts_join c [] h = absurd (omega arith)
parts_join c (b ∷ s) h = go (eqb b c) refl (parts_join c s)
  where
    go : (t : Bool) → eqb b c ≡ t → (1 ≤ length (behind c s) → s ≡ up_to c s ++ (c ∷ []) ++ behind c s) → b ∷ s ≡ up_to c (b ∷ s) ++ (c ∷ []) ++ behind c (b ∷ s)
    go true e ih = rw e (ap (λ (n : ℕ). n ∷ s) (eqb-true b c e))
    go false e ih = rw e (ap (λ (l : List ℕ). b ∷ l) (ih (rw e at h)))

-- those parts of a text that is made of them
module _ (c : ℕ) (t : List ℕ) where
  pub up_to_join : (s : List ℕ) → every (λ b. not (eqb b c)) s ≡ true → up_to c (s ++ (c ∷ []) ++ t) ≡ s
  unfolding up_to front_of every
  up_to_join [] e = rw (eq-eqb c c refl)
  up_to_join (b ∷ s) e = let p = and_true (not (eqb b c)) (every (λ b. not (eqb b c)) s) e in rw p.0 (ap (λ (l : List ℕ). b ∷ l) (up_to_join s p.1))

  pub behind_join : (s : List ℕ) → every (λ b. not (eqb b c)) s ≡ true → behind c (s ++ (c ∷ []) ++ t) ≡ t
  unfolding behind
  behind_join s e = rw (up_to_join s e) (drop_at (s ++ (c ∷ [])) t (suc (length s)) (length-append s (c ∷ []) ∙ omega arith))

-- a line's tokens behind its first byte, and its end
pub arguments_at : (line : List ℕ) (at next : ℕ) → arguments (line_at line at next) ≡ tokens_from true (at + 1) (drop (at + 1) line)
arguments_at line at next = ap (tokens_from true (at + 1)) (drop-drop 1 at line)

pub end_at : (line : List ℕ) (at next : ℕ) → at ≤ length line → line_end (line_at line at next) ≡ length line
end_at line at next h = omega (arith, length-drop at line)
