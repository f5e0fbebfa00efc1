-- The bytes that are not printing, as binary digits: the lowest set digit is the first of them. Assumes nothing.
use Prim.Native.Nat.{ℕ, zero, suc, ◌+◌, ◌*◌, ◌/◌, ◌%◌, ◌^◌, ◌≤◌, ◌<◌}
use mathlib.Core.Path.{◌≡◌, refl, sym, ◌∙◌}
use mathlib.Core.List.{List}
use mathlib.Core.Bool.{Bool, true, false}
use native.Mathlib.Nat.{add-zero, zero-add, pow-suc}
use native.Mathlib.Numerals.{add-one}
use native.Mathlib.Omega.{arith}
use lib.Count.{count_trailing_zeros}
use lib.ListN.{length, get_or}
use lib.Seq.{drop-cons}
use borrow.Author.Tests.{ne_eqb}
use Rattle.refusal.proofs.BoolLaws.{or_true}
use Rattle.text.specs.Bytes.{is_printing, is_allowed}
use Rattle.text.specs.declared.Class.TheVariants.{Printing}
use Rattle.text.specs.Scan.{is_of, past, Scanned, stop_digit, stop_digits, stop_digits_at}
use Rattle.text.proofs.RunLaws.{past_more, past_stop, past_fails, scan_bounds, strict_on}
use Rattle.text.proofs.ScanLaws.{scan_leaps}

-- ---- the lowest digit
lowest_set : (k m : ℕ) → count_trailing_zeros (suc k) (1 + 2 * m) ≡ 0
unfolding count_trailing_zeros
lowest_set k m = let e : (1 + 2 * m) % 2 ≡ 1 = omega arith in rw e

lowest_clear : (k m : ℕ) → count_trailing_zeros (suc k) (2 * m) ≡ suc (count_trailing_zeros k m)
unfolding count_trailing_zeros
lowest_clear k m =
    let e : (2 * m) % 2 ≡ 0 = omega arith in
    let d : (2 * m) / 2 ≡ m = omega arith in
    rw (e, d)

pub digit_clear : (b : ℕ) → is_printing b ≡ true → stop_digit b ≡ 0
unfolding stop_digit
digit_clear b e = rw e

pub digit_set : (b : ℕ) → is_printing b ≡ false → stop_digit b ≡ 1
unfolding stop_digit
digit_set b e = rw e

module _ (f : List ℕ) where
  printing_more : (i : ℕ) → i < length f → is_printing (get_or f i 0) ≡ true → past (is_of Printing) f (i + 1) ≡ past (is_of Printing) f i
  unfolding is_of
  printing_more i h e = past_more is_printing f i h e

  printing_stop : (i : ℕ) → i < length f → is_printing (get_or f i 0) ≡ false → past (is_of Printing) f i ≡ i
  unfolding is_of
  printing_stop i h e = past_stop is_printing f i h e

  stops_none : (i : ℕ) → stop_digits_at f i 0 ≡ 0
  unfolding stop_digits_at stop_digits
  stops_none i = refl

  -- the byte at i, and those behind it
  stops_more : (i n : ℕ) → i < length f → stop_digits_at f i (suc n) ≡ stop_digit (get_or f i 0) + 2 * stop_digits_at f (i + 1) n
  unfolding stop_digits_at stop_digits
  stops_more i n h = rw (drop-cons f i 0 h, add-one)

  -- the n bytes at i, and the m behind them
  pub stops_add : (n i m : ℕ) → i + (n + m) ≤ length f → stop_digits_at f i n + 2 ^ n * stop_digits_at f (i + n) m ≡ stop_digits_at f i (n + m)
  stops_add zero i m h = rw (stops_none i, add-zero i, zero-add m) (omega arith)
  stops_add (suc n) i m h =
      let e : suc n + m ≡ suc (n + m) = omega arith in
      let d : i + suc n ≡ i + 1 + n = omega arith in
      rw (e, d, stops_more i n (omega arith), stops_more i (n + m) (omega arith), ← stops_add n (i + 1) m (omega arith), pow-suc 2 n) (omega arith)

  pub stops_two : (i : ℕ) → i + 2 ≤ length f → stop_digit (get_or f i 0) + 2 * stop_digit (get_or f (i + 1) 0) ≡ stop_digits_at f i 2
  stops_two i h = omega (arith, stops_more i 1 (omega arith), stops_more (i + 1) 0 (omega arith), stops_none (i + 1 + 1))

  -- no digit set: the bytes are passed over
  clear_digit : (n i : ℕ) → i < length f → stop_digits_at f i (suc n) ≡ 0 → (is_printing (get_or f i 0) ≡ true) × (stop_digits_at f (i + 1) n ≡ 0)
  clear_digit n i h e = go (is_printing (get_or f i 0)) refl (stops_more i n h)
    where
      go : (t : Bool) → is_printing (get_or f i 0) ≡ t → stop_digits_at f i (suc n) ≡ stop_digit (get_or f i 0) + 2 * stop_digits_at f (i + 1) n → (is_printing (get_or f i 0) ≡ true) × (stop_digits_at f (i + 1) n ≡ 0)
      go true p m = (p, omega arith)
      go false p m = let z : ⊥ = omega (arith, digit_set (get_or f i 0) p) in absurd z

  pub stops_clear : (n i : ℕ) → i + n ≤ length f → stop_digits_at f i n ≡ 0 → past (is_of Printing) f (i + n) ≡ past (is_of Printing) f i
  stops_clear zero i h e = rw add-zero
  stops_clear (suc n) i h e =
      let q = clear_digit n i (omega arith) e in
      let d : i + suc n ≡ i + 1 + n = omega arith in
      rw d (stops_clear n (i + 1) (omega arith) q.1 ∙ printing_more i (omega arith) q.0)

  -- a digit set: the lowest is that of the byte at which they stop
  pub stops_first : (k n i : ℕ) → n ≤ k → i + n ≤ length f → ¬ (stop_digits_at f i n ≡ 0) → i + count_trailing_zeros k (stop_digits_at f i n) ≡ past (is_of Printing) f i
  stops_first k zero i l h d = absurd (d (stops_none i))
  stops_first zero (suc n) i l h d = let z : ⊥ = omega arith in absurd z
  stops_first (suc k) (suc n) i l h d = rw (stops_more i n (omega arith)) (go (is_printing (get_or f i 0)) refl (stops_more i n (omega arith)) (stops_first k n (i + 1) (omega arith) (omega arith)))
    where
      go : (t : Bool) → is_printing (get_or f i 0) ≡ t → stop_digits_at f i (suc n) ≡ stop_digit (get_or f i 0) + 2 * stop_digits_at f (i + 1) n → (¬ (stop_digits_at f (i + 1) n ≡ 0) → i + 1 + count_trailing_zeros k (stop_digits_at f (i + 1) n) ≡ past (is_of Printing) f (i + 1)) → i + count_trailing_zeros (suc k) (stop_digit (get_or f i 0) + 2 * stop_digits_at f (i + 1) n) ≡ past (is_of Printing) f i
      go true p m ih =
          let clear = digit_clear (get_or f i 0) p in
          let e = ih (λ z. d (omega (arith, m, clear))) in
          rw (clear, zero-add (2 * stop_digits_at f (i + 1) n), lowest_clear) (omega (arith, e, printing_more i (omega arith) p))
      go false p m ih = rw (digit_set (get_or f i 0) p, lowest_set, add-zero) (sym (printing_stop i (omega arith) p))

-- ---- printing bytes and tabs
printing_allowed : (b : ℕ) → is_printing b ≡ true → is_allowed b ≡ true
unfolding is_allowed
printing_allowed b e = rw (e, or_true)

pub tab_allowed : (b : ℕ) → b ≡ 9 → is_allowed b ≡ true
unfolding is_allowed
tab_allowed b e = rw e

pub other_not_allowed : (b : ℕ) → is_printing b ≡ false → ¬ (b ≡ 9) → is_allowed b ≡ false
unfolding is_allowed
other_not_allowed b e d = rw (e, ne_eqb b 9 d)

-- a scan of allowed bytes from `at` has come to i, where no printing byte stands
pub record LeaptTo (f : List ℕ) (at i : ℕ) : Type 0 where
  pub scanned : Scanned is_allowed f at i
  pub stops : i < length f → is_printing (get_or f i 0) ≡ false

-- over the printing bytes at i
pub leaps : {f : List ℕ} {at i m : ℕ} → Scanned is_allowed f at i → m ≡ past (is_of Printing) f i → LeaptTo f at m
unfolding is_of
leaps {f} {at} {i} {m} s e =
    let h = s.within in
    let b = scan_bounds is_printing f i m h e in
    record {
      scanned = scan_leaps s (record { within = b.1; onward = b.0; ends = strict_on is_printing is_allowed printing_allowed f i m h e });
      stops = λ l. rw (← e) at (past_fails is_printing f i (rw e at l));
    }
