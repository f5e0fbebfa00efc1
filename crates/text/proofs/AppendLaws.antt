-- Texts that are put together: where the run, the line or the token in front ends. Assumes nothing.
use Prim.Native.Nat.{ℕ, suc, ◌+◌, ◌≤◌, ◌<◌}
use mathlib.Core.Path.{◌≡◌, refl, ap, ◌∙◌}
use mathlib.Core.List.{List, [], ◌∷◌, ◌++◌, append-nil}
use mathlib.Core.Bool.{Bool, true, not}
use native.Mathlib.Numerals.{add-one}
use native.Mathlib.Omega.{arith}
use lib.ListN.{length, length-append, drop_of_length-le}
use lib.Seq.{drop-append_seam, drop-append-add}
use borrow.Author.Tests.{not-true}
use Rattle.refusal.specs.Lists.{every}
use Rattle.refusal.proofs.BoolLaws.{and_true}
use Rattle.text.specs.Bytes.{front_of, is_space, is_line_feed, is_allowed}
use Rattle.text.specs.Lines.{line_length, line_of, lines_from, token_of, tokens_from}
use Rattle.text.proofs.ContentLaws.{ends_feed, content_none, content_all, ended_content, ended_length}
use Rattle.text.proofs.LineLaws.{lines_cons}
use Rattle.text.proofs.TokenLaws.{tokens_cons}

-- the run of a text that passes, and of what stands behind it
pub run_through : (p : ℕ → Bool) (s t : List ℕ) → every p s ≡ true → front_of p (s ++ t) ≡ s ++ front_of p t
unfolding every front_of
run_through p [] t h = refl
run_through p (b ∷ s) t h = let q = and_true (p b) (every p s) h in rw q.0 (ap (λ (l : List ℕ). b ∷ l) (run_through p s t q.1))

-- the run of a text that passes, where it does not go on in what stands behind
pub run_front : (p : ℕ → Bool) (s t : List ℕ) → every p s ≡ true → front_of p t ≡ [] → front_of p (s ++ t) ≡ s
run_front p s t h e = run_through p s t h ∙ rw e (append-nil s)

-- no bytes, no line
pub lines_none : (at : ℕ) → lines_from true at [] ≡ []
unfolding lines_from
lines_none at = refl

-- the line of a text whose bytes are allowed, where LF ends it, and the lines behind it
pub lines_front : (a b : List ℕ) (at : ℕ) → every is_allowed a ≡ true → lines_from true at (a ++ 10 ∷ b) ≡ record { start = at; bytes = a; next = at + suc (length a) } ∷ lines_from true (at + suc (length a)) b
unfolding line_of is_line_feed
lines_front a b at h =
    let ends = ends_feed (10 ∷ b) refl in
    let None = content_none (10 ∷ b) (omega (arith, ends)) in
    lines_cons (a ++ 10 ∷ b) at (omega (arith, length-append a (10 ∷ b)))
    ∙ rw (ended_content a (10 ∷ b) h None, ended_length a (10 ∷ b) h None, ends, drop-append-add a (10 ∷ b) 1, add-one (length a))

-- that line, where the file ends it
pub lines_last : (a : List ℕ) (at : ℕ) → every is_allowed a ≡ true → 0 < length a → lines_from true at a ≡ line_of at a ∷ []
unfolding line_length
lines_last a at h Some =
    let n : length a ≤ line_length a = omega (arith, ap length (content_all a h)) in
    lines_cons a at Some ∙ rw (drop_of_length-le a n, lines_none)

-- no bytes, no token
pub tokens_none : (at : ℕ) → tokens_from true at [] ≡ []
unfolding tokens_from
tokens_none at = refl

-- the tokens behind white space
pub tokens_space : (s : List ℕ) (at b : ℕ) → is_space b ≡ true → tokens_from true at (b ∷ s) ≡ tokens_from true (at + 1) s
unfolding tokens_from
tokens_space s at b e = rw e

-- the token of a text without white space, where it does not go on in what stands behind, and the tokens behind it
pub tokens_front : (t rest : List ℕ) (at : ℕ) → 0 < length t → every (λ b. not (is_space b)) t ≡ true → front_of (λ b. not (is_space b)) rest ≡ [] → tokens_from true at (t ++ rest) ≡ record { start = at; bytes = t } ∷ tokens_from true (at + length t) rest
unfolding every token_of
tokens_front [] rest at h k e = absurd (omega arith)
tokens_front (b ∷ t) rest at h k e =
    let s = not-true (is_space b) (and_true (not (is_space b)) (every (λ c. not (is_space c)) t) k).0 in
    tokens_cons (t ++ rest) at b s ∙ rw (run_front (λ c. not (is_space c)) (b ∷ t) rest k e, drop-append_seam (b ∷ t) rest)
