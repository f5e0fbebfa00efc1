-- A type: its parts, and one behind a colon, by the bytes that a reader meets one after another. Assumes nothing.
use Prim.Native.Nat.{ℕ, suc, ◌+◌, ◌-◌, ◌*◌, ◌≤◌, ◌<◌}
use Prim.Native.Char.{code}
use mathlib.Core.Path.{◌≡◌, refl, ap, sym, ◌∙◌}
use mathlib.Core.List.{List, [], ◌∷◌}
use mathlib.Core.Bool.{Bool, true, false, not, cond, ◌&&◌}
use native.Mathlib.Omega.{arith}
use lib.Dec.{eqb}
use lib.ListN.{length, get_or, drop, length-drop, length-take}
use lib.Seq.{drop-cons}
use borrow.Author.Tests.{eqb-true, eqb-false, ne_eqb, lt-leb, not-true}
use Rattle.edition.specs.Edition.{is_width}
use Rattle.refusal.specs.Lists.{every}
use Rattle.refusal.proofs.BoolLaws.{and_false, and_true}
use Rattle.refusal.proofs.ResultLaws.{never}
use Rattle.text.specs.Bytes.{front_of, is_space, is_digit}
use Rattle.text.specs.Spelling.{is_numeral, decimal_from, leading_zero, max_width_digits, is_type}
use Rattle.text.specs.declared.Class.TheVariants.{Solid}
use Rattle.std.specs.Prelude.{Ok, Err}
use Rattle.text.specs.declared.TypeError.TheVariants.{NoWidth, NoType}
use Rattle.text.specs.Scan.{TypeRead}
use Rattle.text.specs.Scan.{is_of, past, ends_token, type_of, type_behind_colon, StopsAt}
use Rattle.text.proofs.RunLaws.{run_take, run_end}
use Rattle.text.proofs.SeenLaws.{digit_bounds}
use Rattle.text.proofs.FirstByteLaws.{digit_solid, goes_on}

-- a type is its letter and the digits of its K
pub type_parts : (s : List ℕ) → is_type s ≡ true → (s ≡ code "i" ∷ drop 1 s) × (is_numeral max_width_digits (drop 1 s) ≡ true) × (leading_zero (drop 1 s) ≡ false)
unfolding is_type
type_parts [] e = never (cc e)
type_parts (b ∷ s) e =
    let p = and_true (eqb b (code "i") && is_numeral max_width_digits s) (not (leading_zero s)) e in
    let q = and_true (eqb b (code "i")) (is_numeral max_width_digits s) p.0 in
    (ap (λ (n : ℕ). n ∷ s) (eqb-true b (code "i") q.0), q.1, not-true (leading_zero s) p.1)

-- the token that a text starts with
abbrev token : List ℕ → List ℕ
token = front_of (is_of Solid)

-- a width that is spelt right
abbrev width_of : ℕ → TypeRead
width_of k = cond (is_width k) (Ok k) (Err NoWidth)

-- what holds of no bytes and of a byte in front of a token holds of the token there, whether that byte is white space or not
token_split : (P : List ℕ → Type 0) (b : ℕ) (s : List ℕ) → P [] → P (b ∷ token s) → P (token (b ∷ s))
unfolding front_of
token_split P b s None Some = go (is_of Solid b)
  where
    go : (t : Bool) → P (cond t (b ∷ token s) [])
    go true = Some
    go false = None

-- a token by its first byte
token_more : (b : ℕ) (s : List ℕ) → is_of Solid b ≡ true → token (b ∷ s) ≡ b ∷ token s
unfolding front_of
token_more b s e = rw e

-- a token that ends, or goes on
pub token_ends : (s : List ℕ) → ends_token s ≡ true → token s ≡ []
unfolding front_of is_of ends_token
token_ends [] e = refl
token_ends (b ∷ s) e = rw e

token_goes : (s : List ℕ) → ends_token s ≡ false → 0 < length (token s)
unfolding front_of is_of ends_token
token_goes [] e = never (cc e)
token_goes (b ∷ s) e = rw e (omega arith)

-- the colon and the letter are no white space
solid_colon : is_of Solid 58 ≡ true
unfolding is_of is_space
solid_colon = refl

solid_letter : is_of Solid 105 ≡ true
unfolding is_of is_space
solid_letter = refl

-- no type: the part behind the colon is none, or the part behind the letter is no numeral
colon_no : (b : ℕ) (t : List ℕ) → type_of t ≡ Err NoType → type_behind_colon (b ∷ t) ≡ Err NoType
unfolding type_behind_colon
colon_no b t e = rw e (same (eqb b 58))
  where
    same : (u : Bool) → cond {A = TypeRead} u (Err NoType) (Err NoType) ≡ Err NoType
    same true = refl
    same false = refl

letter_no : (b : ℕ) (t : List ℕ) → is_numeral 2 t ≡ false → type_of (b ∷ t) ≡ Err NoType
unfolding type_of is_type
letter_no b t e = rw (e, and_false)

-- the bytes are too few
behind_short : (t : List ℕ) → length t < 2 → type_behind_colon t ≡ Err NoType
unfolding type_behind_colon type_of is_type
behind_short [] h = refl
behind_short (b ∷ []) h = colon_no b [] refl
behind_short (b ∷ c ∷ t) h = absurd (omega arith)

letter_alone : (b : ℕ) → type_of (b ∷ []) ≡ Err NoType
unfolding is_numeral
letter_alone b = letter_no b [] refl

-- a byte is not the one that stands there in a type
colon_other : (b : ℕ) (s : List ℕ) → (b ≡ 58 → ⊥) → type_behind_colon (token (b ∷ s)) ≡ Err NoType
unfolding type_behind_colon
colon_other b s k = token_split (λ t. type_behind_colon t ≡ Err NoType) b s refl (rw (ne_eqb b 58 k))

letter_other : (b : ℕ) (s : List ℕ) → (b ≡ 105 → ⊥) → type_of (token (b ∷ s)) ≡ Err NoType
unfolding type_of is_type
letter_other b s k = token_split (λ t. type_of t ≡ Err NoType) b s refl (rw (ne_eqb b 105 k))

digit_other : (b : ℕ) (s : List ℕ) → is_digit b ≡ false → is_numeral 2 (token (b ∷ s)) ≡ false
unfolding is_numeral every
digit_other b s e = token_split (λ t. is_numeral 2 t ≡ false) b s refl (rw (e, and_false))

-- the numeral has a byte that is no digit, or too many
second_other : (a b : ℕ) (t : List ℕ) → is_digit b ≡ false → is_numeral 2 (a ∷ b ∷ t) ≡ false
unfolding is_numeral every
second_other a b t e = rw (e, and_false, and_false)

numeral_long : (t : List ℕ) → 2 < length t → is_numeral 2 t ≡ false
unfolding is_numeral
numeral_long t h = rw (lt-leb (length t) 2 h, and_false)

-- a zero leads
zero_leads : (b c : ℕ) (t : List ℕ) → type_of (b ∷ 48 ∷ c ∷ t) ≡ Err NoType
unfolding type_of is_type leading_zero
zero_leads b c t = rw and_false

-- the types
one_digit : (a : ℕ) → is_digit a ≡ true → type_of (105 ∷ a ∷ []) ≡ width_of (a - 48)
unfolding type_of is_type is_numeral every leading_zero decimal_from
one_digit a d = rw d (let z : 0 * 10 + (a - 48) ≡ a - 48 = omega arith in ap width_of z)

two_digits : (a b : ℕ) → is_digit a ≡ true → is_digit b ≡ true → (a - 48 ≡ 0 → ⊥) → type_of (105 ∷ a ∷ b ∷ []) ≡ width_of ((a - 48) * 10 + (b - 48))
unfolding type_of is_type is_numeral every leading_zero decimal_from
two_digits a b d e k = rw (d, e, ne_eqb a 48 (λ (h : a ≡ 48). k (omega arith))) (let z : (0 * 10 + (a - 48)) * 10 + (b - 48) ≡ (a - 48) * 10 + (b - 48) = omega arith in ap width_of z)

-- a byte of f, and the text behind it
token_at_lem : (f : List ℕ) (i n : ℕ) → i < length f → n ≡ suc i → token (drop i f) ≡ token (get_or f i 0 ∷ drop n f)
token_at_lem f i n h e = rw (e, drop-cons f i 0 h)

token_step : (f : List ℕ) (i n : ℕ) → i < length f → n ≡ suc i → is_of Solid (get_or f i 0) ≡ true → token (drop i f) ≡ get_or f i 0 ∷ token (drop n f)
token_step f i n h e k = token_at_lem f i n h e ∙ token_more (get_or f i 0) (drop n f) k

-- no type that is read, and none that is there
pub none_read : (r type : TypeRead) (end stop : ℕ) → r ≡ Err NoType → type ≡ Err NoType → (r ≡ type) × StopsAt end stop r
none_read r type end stop hr e = (hr ∙ sym e, rw hr tt)

-- ---- the K of a type, from `at` on
-- what the contract calls the type there
abbrev found : List ℕ → ℕ → TypeRead
found f at = type_of (105 ∷ token (drop at f))

-- what a reader of a text f from `at` on has met: a byte, and a second one
abbrev pub Led : List ℕ → ℕ → Type 0
Led f at = token (drop at f) ≡ get_or f at 0 ∷ token (drop (at + 1) f)

abbrev pub Longer : List ℕ → ℕ → Type 0
Longer f at = token (drop at f) ≡ get_or f at 0 ∷ get_or f (at + 1) 0 ∷ token (drop (at + 2) f)

-- a width that is read, where its token stops
stops : (f : List ℕ) (at stop k : ℕ) (r : TypeRead) → r ≡ width_of k → found f at ≡ width_of k → at + length (token (drop at f)) ≡ stop → (r ≡ found f at) × StopsAt (past (is_of Solid) f at) stop r
unfolding past
stops f at stop k r hr e h = (hr ∙ sym e, rw hr (go (is_width k)))
  where
    go : (t : Bool) → StopsAt (at + length (token (drop at f))) stop (cond t (Ok k) (Err NoWidth))
    go true = sym h
    go false = sym h

module _ (f : List ℕ) (at : ℕ) where
  -- the text ends
  pub width_none : length f ≤ at → found f at ≡ Err NoType
  width_none h = rw (run_end (is_of Solid) f at h) (letter_alone 105)

  -- a first byte
  module _ (h : at < length f) where
    pub width_other : is_digit (get_or f at 0) ≡ false → found f at ≡ Err NoType
    width_other e = rw (token_at_lem f at (at + 1) h (omega arith)) (letter_no 105 _ (digit_other (get_or f at 0) (drop (at + 1) f) e))

    pub led : is_digit (get_or f at 0) ≡ true → Led f at
    unfolding is_of
    led e = token_step f at (at + 1) h (omega arith) (digit_solid _ e)

  -- the token ends behind one digit, or goes on
  pub width_one : Led f at → is_digit (get_or f at 0) ≡ true → ends_token (drop (at + 1) f) ≡ true → (r : TypeRead) → r ≡ width_of (get_or f at 0 - 48) → (r ≡ found f at) × StopsAt (past (is_of Solid) f at) (at + 1) r
  width_one l d e r hr = let t = rw (token_ends (drop (at + 1) f) e) at l in stops f at (at + 1) (get_or f at 0 - 48) r hr (rw t (one_digit (get_or f at 0) d)) (rw t)

  pub longer : Led f at → ends_token (drop (at + 1) f) ≡ false → Longer f at
  longer l e = l ∙ ap (λ (t : List ℕ). get_or f at 0 ∷ t) (token_step f (at + 1) (at + 2) (goes_on f (at + 1) e).0 (omega arith) (goes_on f (at + 1) e).1)

  -- two bytes
  module _ (l : Longer f at) where
    pub width_second : is_digit (get_or f (at + 1) 0) ≡ false → found f at ≡ Err NoType
    width_second e = rw l (letter_no 105 _ (second_other (get_or f at 0) (get_or f (at + 1) 0) (token (drop (at + 2) f)) e))

    width_zero : is_digit (get_or f at 0) ≡ true → get_or f at 0 - 48 ≡ 0 → found f at ≡ Err NoType
    width_zero d z = let e : get_or f at 0 ≡ 48 = omega (arith, digit_bounds (get_or f at 0) d) in rw (l, e) (zero_leads 105 (get_or f (at + 1) 0) (token (drop (at + 2) f)))

    width_long : ends_token (drop (at + 2) f) ≡ false → found f at ≡ Err NoType
    width_long e = rw l (letter_no 105 _ (numeral_long _ (omega (arith, token_goes (drop (at + 2) f) e))))

    -- a zero leads, or the token goes on
    pub width_not : is_digit (get_or f at 0) ≡ true → (not (eqb (get_or f at 0 - 48) 0) && ends_token (drop (at + 2) f)) ≡ false → found f at ≡ Err NoType
    width_not d = go (eqb (get_or f at 0 - 48) 0) refl
      where
        go : (zero : Bool) → eqb (get_or f at 0 - 48) 0 ≡ zero → (not zero && ends_token (drop (at + 2) f)) ≡ false → found f at ≡ Err NoType
        go true z e = width_zero d (eqb-true _ _ z)
        go false z e = width_long e

    pub width_two : is_digit (get_or f at 0) ≡ true → is_digit (get_or f (at + 1) 0) ≡ true → (not (eqb (get_or f at 0 - 48) 0) && ends_token (drop (at + 2) f)) ≡ true → (r : TypeRead) → r ≡ width_of ((get_or f at 0 - 48) * 10 + (get_or f (at + 1) 0 - 48)) → (r ≡ found f at) × StopsAt (past (is_of Solid) f at) (at + 2) r
    width_two d e g r hr =
        let q = and_true _ _ g in
        let t = rw (token_ends (drop (at + 2) f) q.1) at l in
        stops f at (at + 2) _ r hr (rw t (two_digits (get_or f at 0) (get_or f (at + 1) 0) d e (eqb-false _ _ (not-true _ q.0)))) (rw t)

-- ---- the colon and the letter, from `at` on
module _ (f : List ℕ) (at : ℕ) where
  pub type_short : length f - at < 2 → type_behind_colon (token (drop at f)) ≡ Err NoType
  type_short h = behind_short (token (drop at f)) (omega (arith, simp length-take at (ap length (run_take (is_of Solid) (drop at f))), length-drop at f))

  module _ (h : 2 ≤ length f - at) where
    pub type_colon : (get_or f at 0 ≡ 58 → ⊥) → type_behind_colon (token (drop at f)) ≡ Err NoType
    type_colon k = rw (drop-cons f at 0 (omega arith)) (colon_other (get_or f at 0) (drop (suc at) f) k)

    module _ (c : get_or f at 0 ≡ 58) where
      colon_read : token (drop at f) ≡ 58 ∷ token (drop (at + 1) f)
      colon_read = token_step f at (at + 1) (omega arith) (omega arith) (rw c solid_colon) ∙ rw c

      pub type_letter : (get_or f (at + 1) 0 ≡ 105 → ⊥) → type_behind_colon (token (drop at f)) ≡ Err NoType
      type_letter k = rw (colon_read, token_at_lem f (at + 1) (at + 2) (omega arith) (omega arith)) (colon_no 58 _ (letter_other (get_or f (at + 1) 0) (drop (at + 2) f) k))

      -- behind them stands the K, whose token is the same
      module _ (k : get_or f (at + 1) 0 ≡ 105) where
        opened : token (drop at f) ≡ 58 ∷ 105 ∷ token (drop (at + 2) f)
        opened = colon_read ∙ ap (λ (l : List ℕ). 58 ∷ l) (token_step f (at + 1) (at + 2) (omega arith) (omega arith) (rw k solid_letter) ∙ rw k)

        same_stop : past (is_of Solid) f (at + 2) ≡ past (is_of Solid) f at
        unfolding past
        same_stop = omega (arith, ap length opened)

        pub type_read : (r : TypeRead) (stop : ℕ) → r ≡ found f (at + 2) → StopsAt (past (is_of Solid) f (at + 2)) stop r → (r ≡ type_behind_colon (token (drop at f))) × StopsAt (past (is_of Solid) f at) stop r
        unfolding type_behind_colon
        type_read r stop e s = (e ∙ rw opened, rw same_stop at s)
