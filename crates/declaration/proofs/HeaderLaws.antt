-- The `v` and `e` lines, by what their tokens are. Assumes nothing.
use mathlib.Core.Path.{◌≡◌, refl}
use mathlib.Core.Bool.{Bool, true, false, cond, not, ◌&&◌}
use mathlib.Core.List.{List, [], ◌∷◌}
use Rattle.std.specs.Prelude.{Option, None, Some, is_some}
use Rattle.std.specs.Result.{result_ok}
use Prim.Native.Nat.{ℕ, ◌+◌, ◌≤◌, ◌<◌}
use native.Mathlib.Omega.{arith}
use lib.Dec.{eqb, ltb}
use lib.ListN.{length, take, drop}
use borrow.Author.Tests.{ne_eqb, ltb-false}
use Rattle.edition.specs.declared.Edition.{Edition}
use Rattle.edition.specs.Edition.{edition_numbered}
use Rattle.refusal.specs.declared.Subject.TheVariants.{Constraint}
use Rattle.refusal.specs.declared.Fault.{Fault}
use Rattle.refusal.specs.declared.Fault.TheVariants.{MisplacedLine, TokenCount}
use Rattle.refusal.specs.Result.{Ok, Err, refusal, ◌>>◌}
use Rattle.refusal.proofs.BoolLaws.{and_false}
use Rattle.text.specs.declared.Class.TheVariants.{Until}
use Rattle.text.specs.declared.NumberError.TheVariants.{TooBig, NotANumber}
use Rattle.text.specs.Lines.{Token, tokens_from}
use Rattle.text.specs.Spelling.{decimal, is_numeral, number_bound}
use Rattle.text.specs.Reading.{no_more_tokens}
use Rattle.text.specs.Scan.{is_of, past, Number, number_read, line_at}
use Rattle.text.proofs.TokenLaws.{up_to_lem, behind_it, arguments_at, end_at}
use Rattle.constraint.specs.File.{File}
use Rattle.constraint.specs.Read.{in_header, read_single, max_version_digits, version_of}
use Rattle.store.specs.declared.Progress.{Progress}
use Rattle.store.specs.Tables.{Store}
use Rattle.store.specs.Progress.{stored_file}
use Rattle.store.proofs.LineTableLaws.{lines_length}

-- the header goes on while no line is held
pub in_header_lem : (bytes : List ℕ) (t : Store) (p : Progress) → in_header (stored_file bytes t p) ≡ eqb p.lines 0
unfolding in_header
in_header_lem bytes t p = rw (lines_length t.heads t.bodies p.lines)

-- a header line is allowed in it, if there is none of its kind
pub gate : {A : Type 0} (bytes : List ℕ) (t : Store) (p : Progress) (o : Option A) (new : Bool) → is_some o ≡ not new → (in_header (stored_file bytes t p) && not (is_some o)) ≡ (eqb p.lines 0 && new)
gate bytes t p o true e = rw (in_header_lem bytes t p, e)
gate bytes t p o false e = rw (in_header_lem bytes t p, e)

-- the edition of two numbers, if both were read
abbrev pub edition_by : Option ℕ → Option ℕ → Option Edition
edition_by None b = None
edition_by (Some a) None = None
edition_by (Some a) (Some b) = edition_numbered a b

-- a number that is too big is neither 1 nor 0
too_big : (d k : ℕ) → k < number_bound → ltb d number_bound ≡ false → eqb d k ≡ false
too_big d k h e = ne_eqb d k (omega (arith, ltb-false d number_bound e))

abbrev number_in : Bool → Bool → ℕ → Number
number_in spelt small d = cond spelt (cond small (Ok d) (Err TooBig)) (Err NotANumber)

-- the tests of both sides, whatever they say
edition_split : (n₁ n₂ b₁ b₂ : Bool) (d₁ d₂ : ℕ) → (b₁ ≡ false → eqb d₁ 1 ≡ false) → (b₂ ≡ false → eqb d₂ 0 ≡ false)
    → edition_by (result_ok (number_in n₁ b₁ d₁)) (result_ok (number_in n₂ b₂ d₂)) ≡ cond (n₁ && n₂) (edition_numbered d₁ d₂) None
unfolding edition_numbered
edition_split false n₂ b₁ b₂ d₁ d₂ h k = refl
edition_split true false true b₂ d₁ d₂ h k = refl
edition_split true false false b₂ d₁ d₂ h k = refl
edition_split true true true true d₁ d₂ h k = refl
edition_split true true true false d₁ d₂ h k = rw (k refl, and_false (eqb d₁ 1))
edition_split true true false b₂ d₁ d₂ h k = rw (h refl)

-- a version token by its two numbers: `dot` is where the scanner found the dot
pub version_is : (text : List ℕ) (at dot : ℕ) → at ≤ length text → dot ≡ past (is_of (Until 46)) text at
    → (a b : Option ℕ) → a ≡ result_ok (number_read max_version_digits (drop at (take dot text))) → b ≡ result_ok (number_read max_version_digits (drop (dot + 1) text))
    → edition_by a b ≡ version_of (drop at text)
unfolding version_of number_read
version_is text at dot h e a b p q =
    rw (p, q, up_to_lem text at 46 dot h e, behind_it text at 46 dot h e)
    (let s = drop at (take dot text) in
    let r = drop (dot + 1) text in
    edition_split (is_numeral max_version_digits s) (is_numeral max_version_digits r) (ltb (decimal s) number_bound) (ltb (decimal r) number_bound) (decimal s) (decimal r) (too_big (decimal s) 1 (omega arith)) (too_big (decimal r) 0 (omega arith)))

-- a line with one token, by its tokens
module _ {A : Type 0} (allowed : Bool) (parse : List ℕ → Option A) (wrong : Fault) (add : A → File) (line : List ℕ) (at next : ℕ) where
  pub single_misplaced : allowed ≡ false → Err (refusal Constraint MisplacedLine at) ≡ read_single allowed parse wrong add (line_at line at next)
  unfolding read_single
  single_misplaced e = rw e

  module _ (e : allowed ≡ true) where
    pub single_missing : at ≤ length line → tokens_from true (at + 1) (drop (at + 1) line) ≡ [] → Err (refusal Constraint TokenCount (length line)) ≡ read_single allowed parse wrong add (line_at line at next)
    unfolding read_single
    single_missing h ts = rw (e, arguments_at line at next, ts, end_at line at next h)

    module _ (t : Token) (ts : List Token) (k : tokens_from true (at + 1) (drop (at + 1) line) ≡ t ∷ ts) where
      pub single_wrong : None ≡ parse t.bytes → Err (refusal Constraint wrong t.start) ≡ read_single allowed parse wrong add (line_at line at next)
      unfolding read_single
      single_wrong n = rw (e, arguments_at line at next, k, ← n)

      pub single_read : (a : A) → Some a ≡ parse t.bytes → (no_more_tokens Constraint ts >> Ok (add a)) ≡ read_single allowed parse wrong add (line_at line at next)
      unfolding read_single
      single_read a s = rw (e, arguments_at line at next, k, ← s)
