-- A token by its first byte: with a letter it is a name or misspelt, without one it is no name. Assumes nothing.
use Prim.Native.Nat.{ℕ, suc, ◌+◌, ◌≤◌, ◌<◌}
use mathlib.Core.Path.{◌≡◌, refl, ap, ◌∙◌}
use mathlib.Core.Bool.{Bool, true, false, not, cond}
use mathlib.Core.List.{List, [], ◌∷◌}
use native.Mathlib.Decide.{dec_lt}
use native.Mathlib.Omega.{arith}
use lib.Dec.{eqb}
use lib.ListN.{length, get_or, take, drop, drop_of_length-le}
use lib.Seq.{drop-cons, get_or-take, length-take-le}
use Rattle.refusal.specs.Lists.{every}
use Rattle.refusal.proofs.BoolLaws.{and_true, and_one, fails}
use Rattle.refusal.proofs.ResultLaws.{never}
use Rattle.text.specs.Bytes.{front_of, is_letter, is_name_byte, is_space}
use Rattle.text.specs.Spelling.{is_name, up_to}
use Rattle.text.specs.declared.Class.TheVariants.{Solid, Digit, NameByte}
use Rattle.text.specs.Scan.{is_of, past, ends_token}
use Rattle.text.proofs.RunLaws.{past_more, past_ge, past_le, run_part, scan_bounds, scan_not, strict_every, strict_same, strict_within, strict_before}
use Rattle.text.proofs.NameLaws.{name_at_lem}
use Rattle.text.proofs.SeenLaws.{digit_seen, byte_seen, name_bytes, seen_solid}

-- digits and the bytes of a name are not white space
pub digit_solid : (b : ℕ) → is_of Digit b ≡ true → is_of Solid b ≡ true
unfolding is_of
digit_solid b e = seen_solid b (digit_seen b e)

pub name_solid : (b : ℕ) → is_of NameByte b ≡ true → is_of Solid b ≡ true
unfolding is_of
name_solid b e = seen_solid b (byte_seen b e)

-- a letter is one of the bytes of a name
pub letter_named : (b : ℕ) → is_letter b ≡ true → is_of NameByte b ≡ true
unfolding is_name_byte is_of
letter_named b e = rw e

letter_solid : (b : ℕ) → is_letter b ≡ true → is_of Solid b ≡ true
letter_solid b e = name_solid b (letter_named b e)

-- whether a token ends at i
module _ (f : List ℕ) (i : ℕ) where
  ends_solid : ends_token (drop i f) ≡ true → i < length f → is_of Solid (get_or f i 0) ≡ false
  unfolding ends_token is_of
  ends_solid e h = let s : is_space (get_or f i 0) ≡ true = rw (drop-cons f i 0 h) at e in ap not s

  pub goes_on : ends_token (drop i f) ≡ false → (i < length f) × (is_of Solid (get_or f i 0) ≡ true)
  unfolding ends_token is_of
  goes_on e = elim (dec_lt i (length f)) [
    | yes h ↦ (let s : is_space (get_or f i 0) ≡ false = rw (drop-cons f i 0 h) at e in (h, ap not s))
    | no h ↦ (let k : length f ≤ i = omega arith in never (cc (rw (drop_of_length-le f k) at e)))
  ]

-- bytes of a name are a name where the first is a letter
pub bytes_name : (f : List ℕ) (at : ℕ) → at < length f → every (is_of NameByte) (drop at f) ≡ true → is_name (drop at f) ≡ is_letter (get_or f at 0)
unfolding is_name every is_of
bytes_name f at h e = rw (drop-cons f at 0 h) (let q = and_true (is_name_byte (get_or f at 0)) (every is_name_byte (drop (suc at) f)) (rw (drop-cons f at 0 h) at e) in rw (q.1, and_one))

-- what has another byte is no name
pub not_bytes : (s : List ℕ) → every is_name_byte s ≡ false → is_name s ≡ false
not_bytes s e = fails (is_name s) (λ t. never (cc (e, name_bytes s t)))

-- a part of bytes of which the first is no letter is no name
part_no_name : (p : ℕ → Bool) (c b : ℕ) (s : List ℕ) → is_letter b ≡ false → is_name (up_to c (front_of p (b ∷ s))) ≡ false
unfolding front_of up_to is_name
part_no_name p c b s e = go (p b) (eqb b c) refl
  where
    go : (t u : Bool) → eqb b c ≡ u → is_name (up_to c (cond t (b ∷ front_of p s) [])) ≡ false
    go true true d = rw d
    go true false d = rw (d, e)
    go false u d = refl

-- a token that starts at `at`
module _ (line : List ℕ) (at : ℕ) (h : at < length line) where
  pub letter_starts : is_letter (get_or line at 0) ≡ true → at < past (is_of Solid) line at
  letter_starts a = omega (arith, past_more (is_of Solid) line at h (letter_solid (get_or line at 0) a), past_ge (is_of Solid) line (at + 1))

  -- with a letter, and bytes of a name reach to `stop`
  module _ (a : is_letter (get_or line at 0) ≡ true) (stop : ℕ) (hs : stop ≡ past (is_of NameByte) line at) where
    pub name_bounds : (at < stop) × (stop ≤ length line)
    name_bounds = (omega (arith, past_more (is_of NameByte) line at h (letter_named (get_or line at 0) a), past_ge (is_of NameByte) line (at + 1)), (scan_bounds (is_of NameByte) line at stop (omega arith) hs).1)

    pub name_stops : ends_token (drop stop line) ≡ true → stop ≡ past (is_of Solid) line at
    name_stops e = strict_same (is_of NameByte) (is_of Solid) name_solid line at stop (omega arith) hs (ends_solid line stop e)

    pub name_whole : is_name (drop at (take stop line)) ≡ true
    name_whole =
        let b = name_bounds in
        bytes_name (take stop line) at (omega (arith, length-take-le stop line b.1)) (strict_every (is_of NameByte) (is_of Solid) name_solid line at stop (omega arith) hs)
        ∙ rw (get_or-take stop line at 0 b.0) a

    pub name_broken : ends_token (drop stop line) ≡ false → is_name (drop at (take (past (is_of Solid) line at) line)) ≡ false
    unfolding is_of
    name_broken e =
        let g = goes_on line stop e in
        let end = past (is_of Solid) line at in
        let l = length-take-le end line (past_le (is_of Solid) line at (omega arith)) in
        let lt : stop < end = strict_before (is_of NameByte) (is_of Solid) name_solid line at stop (omega arith) hs g.0 g.1 in
        not_bytes (drop at (take end line)) (scan_not (is_of NameByte) (take end line) at stop (omega (arith, name_bounds, l)) (strict_within (is_of NameByte) (is_of Solid) name_solid line at stop (omega arith) hs) (omega (arith, l)))

  -- without a letter, whatever part of it stands in front of a byte

  pub no_name_part : is_letter (get_or line at 0) ≡ false → (c : ℕ) → is_name (up_to c (drop at (take (past (is_of Solid) line at) line))) ≡ false
  no_name_part a c = rw (← run_part (is_of Solid) line at (omega arith), drop-cons line at 0 h) (part_no_name (is_of Solid) c (get_or line at 0) (drop (suc at) line) a)

  -- it is no name without a letter
  pub no_name : is_letter (get_or line at 0) ≡ false → (stop : ℕ) → at < stop → stop ≤ length line → is_name (drop at (take stop line)) ≡ false
  no_name a stop k l = name_at_lem (take stop line) at (omega (arith, length-take-le stop line l)) ∙ rw (get_or-take stop line at 0 k, a)
