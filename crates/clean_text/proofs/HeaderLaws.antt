-- The header of a clean text says what the header that it was made from says, in no more bytes. Assumes nothing.
use Prim.Native.Nat.{ℕ, ◌+◌, ◌≤◌}
use Prim.Native.Char.{code}
use mathlib.Core.Path.{◌≡◌, refl, ap}
use mathlib.Core.Bool.{Bool, true, false}
use mathlib.Core.List.{List, [], ◌∷◌, ◌++◌, map, flat_map, append-nil}
use Rattle.std.specs.Prelude.{Option, None, Some}
use native.Mathlib.Omega.{arith}
use lib.Dec.{eqb}
use lib.ListN.{length}
use borrow.Author.Tests.{eqb-true}
use Rattle.edition.specs.declared.Edition.{Edition}
use Rattle.refusal.specs.Lists.{every}
use Rattle.text.specs.Lines.{leads}
use Rattle.text.proofs.SeenLaws.{is_seen}
use Rattle.constraint.specs.File.{Variable}
use Rattle.constraint.specs.Sound.{Each, SoundVariable}
use Rattle.constraint.proofs.SpacedLaws.{SeenWord}
use Rattle.plain.specs.Says.{Said, leading_letter, lines_with, tokens_with, is_header, SpellsVersion, SaysExpectation, no_line, says_0, says_1, SpellsVariable, Pairwise}
use Rattle.plain.proofs.HeaderLaws.{pairs_append}
use Rattle.printing.specs.Digits.{digits_in, digits}
use Rattle.clean_text.specs.Text.{version_text, declaration_text, version_line, expectation_lines, declaration_lines}
use Rattle.clean_text.proofs.Weights.{texts_weight, saids_weight, weight_append}
use Rattle.clean_text.proofs.RespeltLaws.{word_digits, word_declaration, word_version, version_cost, variable_spelt, variable_cost}
use Rattle.clean_text.proofs.SpokenLaws.{Spoken}

-- ---- what it says
-- the tokens of its `e` lines
abbrev expectation_tokens : Option ℕ → List (List (List ℕ))
expectation_tokens None = []
expectation_tokens (Some n) = (digits n ∷ []) ∷ []

abbrev expectation_said : Option ℕ → List Said
expectation_said n = map (λ ts. record { letter = code "e"; tokens = ts }) (expectation_tokens n)

abbrev declarations_said : List Variable → List Said
declarations_said [] = []
declarations_said (x ∷ xs) = record { letter = code "d"; tokens = map declaration_text (x ∷ xs) } ∷ []

abbrev pub header_said : Edition → Option ℕ → List Variable → List Said
header_said e n xs = record { letter = code "v"; tokens = version_text e ∷ [] } ∷ expectation_said n ++ declarations_said xs

-- ---- the bytes that a header takes
-- of lines, by their tokens
abbrev lines_weight : List (List (List ℕ)) → ℕ
lines_weight [] = 0
lines_weight (ts ∷ tss) = 2 + texts_weight ts + lines_weight tss

-- of declarations on one line, whose letter and LF count if there are any
abbrev head_weight : List (List ℕ) → ℕ
head_weight [] = 0
head_weight (t ∷ ts) = 2

abbrev declared_weight : List (List ℕ) → ℕ
declared_weight ts = head_weight ts + texts_weight ts

declared_append : (ts us : List (List ℕ)) → declared_weight (ts ++ us) ≤ 2 + texts_weight ts + declared_weight us
declared_append [] us = omega arith
declared_append (t ∷ ts) us = omega (arith, weight_append ts us)

abbrev parts_weight : List Said → ℕ
parts_weight hs = lines_weight (lines_with (code "v") hs) + lines_weight (lines_with (code "e") hs) + declared_weight (tokens_with (code "d") hs)

header_cost : (hs : List Said) → parts_weight hs ≤ saids_weight hs
unfolding lines_with tokens_with flat_map
header_cost [] = omega arith
header_cost (s ∷ hs) = go (eqb s.letter (code "v")) refl (eqb s.letter (code "e")) refl (eqb s.letter (code "d")) refl (header_cost hs)
  where
    go : (v : Bool) → eqb s.letter (code "v") ≡ v → (e : Bool) → eqb s.letter (code "e") ≡ e → (d : Bool) → eqb s.letter (code "d") ≡ d → parts_weight hs ≤ saids_weight hs → parts_weight (s ∷ hs) ≤ saids_weight (s ∷ hs)
    go true h e _ d _ ih = rw (eqb-true s.letter (code "v") h) (omega arith)
    go false h true k d _ ih = rw (eqb-true s.letter (code "e") k) (omega arith)
    go false h false k true m ih = rw (eqb-true s.letter (code "d") m) (omega (arith, declared_append s.tokens (tokens_with (code "d") hs)))
    go false h false k false m ih = rw (h, k, m) (omega arith)

-- ---- the parts
-- an `e` line has no other spelling
pub expectation_same : (es : List (List (List ℕ))) (n : Option ℕ) → SaysExpectation es n → es ≡ expectation_tokens n
unfolding digits digits_in
expectation_same es n (no_line e k) = rw (e, k)
expectation_same es n (says_0 e k) = rw (e, k)
expectation_same es n (says_1 e k) = rw (e, k)

pub declarations_again : (ts : List (List ℕ)) (xs : List Variable) → Pairwise SpellsVariable ts xs → Pairwise SpellsVariable (map declaration_text xs) xs × (texts_weight (map declaration_text xs) ≤ texts_weight ts) × (head_weight (map declaration_text xs) ≡ head_weight ts)
declarations_again [] [] p = (tt, omega arith, refl)
declarations_again [] (x ∷ xs) p = absurd p
declarations_again (t ∷ ts) [] p = absurd p
declarations_again (t ∷ ts) (x ∷ xs) p = let q = declarations_again ts xs p.1 in ((variable_spelt t x p.0, q.0), omega (arith, q.1, variable_cost t x p.0), refl)

-- ---- the header's lines
expectation_spoken : (n : Option ℕ) → Pairwise Spoken (expectation_lines n) (expectation_said n)
unfolding expectation_lines leading_letter leads is_seen
expectation_spoken None = tt
expectation_spoken (Some n) = (record { letter = (refl, refl, refl, refl); words = (word_digits n, tt); is = refl }, tt)

declaration_words : (e : Edition) (xs : List Variable) → Each (SoundVariable e) xs → Each SeenWord (map declaration_text xs)
declaration_words e [] s = tt
declaration_words e (x ∷ xs) s = (word_declaration x s.0.spelt, declaration_words e xs s.1)

declarations_spoken : (e : Edition) (xs : List Variable) → Each (SoundVariable e) xs → Pairwise Spoken (declaration_lines xs) (declarations_said xs)
unfolding declaration_lines leading_letter leads is_seen
declarations_spoken e [] s = tt
declarations_spoken e (x ∷ xs) s = (record { letter = (refl, refl, refl, refl); words = declaration_words e (x ∷ xs) s; is = refl }, tt)

pub header_spoken : (e : Edition) (n : Option ℕ) (xs : List Variable) → Each (SoundVariable e) xs → Pairwise Spoken (version_line e ∷ expectation_lines n ++ declaration_lines xs) (header_said e n xs)
unfolding version_line leading_letter leads is_seen
header_spoken e n xs s = (record { letter = (refl, refl, refl, refl); words = (word_version e, tt); is = refl }, pairs_append Spoken (expectation_lines n) (declaration_lines xs) (expectation_said n) (declarations_said xs) (expectation_spoken n) (declarations_spoken e xs s))

-- sorted by their letters
pub record Sorted (e : Edition) (n : Option ℕ) (xs : List Variable) (hs : List Said) : Type 0 where
  pub letters : every is_header hs ≡ true
  pub versions : lines_with (code "v") hs ≡ (version_text e ∷ []) ∷ []
  pub expectations : lines_with (code "e") hs ≡ expectation_tokens n
  pub some_declared : Each (λ ts. 1 ≤ length ts) (lines_with (code "d") hs)
  pub declared : tokens_with (code "d") hs ≡ map declaration_text xs
  weight : saids_weight hs ≡ 3 + length (version_text e) + lines_weight (expectation_tokens n) + declared_weight (map declaration_text xs)

pub header_sorted : (e : Edition) (n : Option ℕ) (xs : List Variable) → Sorted e n xs (header_said e n xs)
unfolding every is_header lines_with tokens_with flat_map
header_sorted e None [] = record { letters = refl; versions = refl; expectations = refl; some_declared = tt; declared = refl; weight = omega arith }
header_sorted e None (x ∷ xs) = record { letters = refl; versions = refl; expectations = refl; some_declared = (omega arith, tt); declared = append-nil _; weight = omega arith }
header_sorted e (Some n) [] = record { letters = refl; versions = refl; expectations = refl; some_declared = tt; declared = refl; weight = omega arith }
header_sorted e (Some n) (x ∷ xs) = record { letters = refl; versions = refl; expectations = refl; some_declared = (omega arith, tt); declared = append-nil _; weight = omega arith }

pub header_no_longer : (e : Edition) (n : Option ℕ) (xs : List Variable) (hs : List Said) (t : List ℕ) → lines_with (code "v") hs ≡ (t ∷ []) ∷ [] → SpellsVersion t e → SaysExpectation (lines_with (code "e") hs) n → Pairwise SpellsVariable (tokens_with (code "d") hs) xs → saids_weight (header_said e n xs) ≤ saids_weight hs
header_no_longer e n xs hs t one v x d =
    let c = declarations_again (tokens_with (code "d") hs) xs d in
    omega (arith, header_cost hs, (header_sorted e n xs).weight, ap lines_weight one, version_cost t e v, ap lines_weight (expectation_same _ n x), c.1, c.2)
