-- Decimal numbers, by what a reader finds of them. Assumes nothing.
use Prim.Native.Nat.{ℕ, ◌+◌, ◌-◌, ◌*◌, ◌^◌, ◌≤◌, ◌<◌}
use mathlib.Core.Path.{◌≡◌, refl, sym, ◌∙◌}
use mathlib.Core.List.{List, [], ◌∷◌, ◌++◌}
use mathlib.Core.Bool.{Bool, true, false, cond, ◌&&◌}
use native.Mathlib.Omega.{arith}
use lib.Dec.{leb}
use lib.ListN.{length, get_or, drop, length-drop}
use borrow.Author.Tests.{lt-ltb, le-ltb, leb-true}
use Rattle.refusal.specs.Lists.{every}
use Rattle.text.specs.Bytes.{front_of, is_digit}
use Rattle.text.specs.Spelling.{is_numeral, decimal_from, decimal}
use Rattle.text.specs.declared.Class.TheVariants.{Digit}
use Rattle.std.specs.Prelude.{Ok, Err}
use Rattle.text.specs.declared.NumberError.TheVariants.{TooBig, NotANumber}
use Rattle.text.specs.Scan.{Number}
use Rattle.text.specs.Scan.{is_of, past, magnitude, number_read}
use Rattle.refusal.proofs.BoolLaws.{and_false, and_one, and_true}
use Rattle.text.proofs.RunLaws.{run_more, run_stop, run_end, run_all, scan_bounds, scan_all, scan_not}

-- a numeral has digits, one at least
pub numeral_parts : (n : ℕ) (s : List ℕ) → is_numeral n s ≡ true → (1 ≤ length s) × (every is_digit s ≡ true)
unfolding is_numeral
numeral_parts n s e =
    let p = and_true (leb 1 (length s) && leb (length s) n) (every is_digit s) e in
    (leb-true 1 (length s) (and_true (leb 1 (length s)) (leb (length s) n) p.0).0, p.1)

-- the number that a run of digits makes behind the number n, from one place to the next
module _ (p : ℕ → Bool) (f : List ℕ) (i n : ℕ) where
  pub digits_more : i < length f → p (get_or f i 0) ≡ true → decimal_from n (front_of p (drop i f)) ≡ decimal_from (n * 10 + (get_or f i 0 - 48)) (front_of p (drop (i + 1) f))
  unfolding decimal_from
  digits_more h e = rw (run_more p f i h e, decimal_from)

  pub digits_stop : i < length f → p (get_or f i 0) ≡ false → decimal_from n (front_of p (drop i f)) ≡ n
  unfolding decimal_from
  digits_stop h e = rw (run_stop p f i h e)

  pub digits_end : length f ≤ i → decimal_from n (front_of p (drop i f)) ≡ n
  unfolding decimal_from
  digits_end h = rw (run_end p f i h)

-- a number that is too big stays so
digits_grow : (s : List ℕ) (n m : ℕ) → m ≤ n → m ≤ decimal_from n s
unfolding decimal_from
digits_grow [] n m k = k
digits_grow (b ∷ s) n m k = digits_grow s (n * 10 + (b - 48)) m (omega arith)

-- what digits make: n, or more than a word holds once n is
module _ (s : List ℕ) (n : ℕ) where
  pub digits_good : n < 2 ^ 64 → n ≡ decimal s → Ok n ≡ magnitude s
  digits_good h e = rw (sym e, lt-ltb n (2 ^ 64) h)

  pub digits_big : 2 ^ 64 ≤ n → (t : List ℕ) → decimal_from n t ≡ decimal s → Err TooBig ≡ magnitude s
  digits_big h t e =
      let big : 2 ^ 64 ≤ decimal s = omega (arith, e, digits_grow t n (2 ^ 64) h) in
      rw (le-ltb (decimal s) (2 ^ 64) big)

-- the number from `at` on, by where its digits stop
module _ (most : ℕ) (f : List ℕ) (at stop : ℕ) (h : at ≤ length f) (e : stop ≡ past (is_of Digit) f at) where
  pub number_other : stop < length f → Err NotANumber ≡ number_read most (drop at f)
  unfolding is_of number_read is_numeral
  number_other l = rw (scan_not (is_of Digit) f at stop h e l, and_false)

  pub number_whole : length f ≤ stop → (n : Number) → n ≡ magnitude (front_of (is_of Digit) (drop at f)) → cond (leb 1 (stop - at) && leb (stop - at) most) n (Err NotANumber) ≡ number_read most (drop at f)
  unfolding is_of number_read is_numeral
  number_whole l n k =
      let b = scan_bounds (is_of Digit) f at stop h e in
      let z : stop ≡ length f = omega arith in
      rw (k, run_all (is_of Digit) f at h (sym e ∙ z), scan_all (is_of Digit) f at stop h e z, z, length-drop at f, and_one)

-- the number that digits make, of a front and what stands behind it
pub decimal_append : (s t : List ℕ) (n : ℕ) → decimal_from n (s ++ t) ≡ decimal_from (decimal_from n s) t
unfolding decimal_from
decimal_append [] t n = refl
decimal_append (b ∷ s) t n = decimal_append s t _
