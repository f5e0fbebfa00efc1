-- The digits of a number: one step of their recursion, how many there are, and how they are put. Assumes nothing.
use mathlib.Core.Path.{◌≡◌, refl, sym, ap, ◌∙◌}
use mathlib.Core.List.{List, [], ◌∷◌, ◌++◌}
use mathlib.Core.Bool.{Bool, true, false, cond}
use Prim.Native.Nat.{ℕ, zero, suc, ◌+◌, ◌/◌, ◌%◌, ◌^◌, ◌<◌, ◌≤◌}
use native.Mathlib.Nat.{add-zero, div-lt_iff_lt-mul, pow-suc}
use native.Mathlib.Decide.{dec_lt}
use native.Mathlib.Omega.{arith}
use lib.ListN.{length, set, length-append, length-set}
use lib.Seq.{set-set}
use lib.Dec.{ltb, lit<}
use borrow.Author.Tests.{lt-ltb, le-ltb}
use Rattle.text.specs.Spelling.{max_digits, number_bound}
use Rattle.printing.specs.Digits.{digit, digits_in, digits}
use Rattle.printing.specs.Room.{Put}
use Rattle.printing.proofs.PlaceLaws.{put_one, put_then}

-- the clause, as a law: `digits` unfolded would be written out 20 deep
clause : (n v : ℕ) → digits_in (suc n) v ≡ cond (ltb v 10) (digit v ∷ []) (digits_in n (v / 10) ++ (digit (v % 10) ∷ []))
unfolding digits_in
clause n v = refl

-- one digit more than are there makes no difference
stable : (n v : ℕ) → v < 10 ^ suc n → digits_in (suc (suc n)) v ≡ digits_in (suc n) v
stable zero v h = rw (clause 1 v, clause 0 v, lt-ltb v 10 h)
stable (suc n) v h =
    let lt : v / 10 < 10 ^ suc n = (div-lt_iff_lt-mul {k = 10} {x = v} {y = 10 ^ suc n} (lit< tt)).1 (rw pow-suc at h) in
    clause (suc (suc n)) v
    ∙ ap (λ (l : List ℕ). cond (ltb v 10) (digit v ∷ []) (l ++ (digit (v % 10) ∷ []))) (stable n (v / 10) lt)
    ∙ sym (clause (suc n) v)

-- how many there are at most
at_most : (n v : ℕ) → length (digits_in n v) ≤ n
unfolding digits_in
at_most zero v = omega arith
at_most (suc n) v = go (ltb v 10) (at_most n (v / 10))
  where
    go : (t : Bool) → length (digits_in n (v / 10)) ≤ n → length (cond t (digit v ∷ []) (digits_in n (v / 10) ++ (digit (v % 10) ∷ []))) ≤ suc n
    go true h = omega arith
    go false h = rw length-append (omega arith)

pub digits_count : (v : ℕ) → length (digits v) ≤ max_digits
unfolding digits
digits_count = at_most max_digits

-- one digit
module _ (v : ℕ) (h : v < 10) where
  pub digits_one : digits v ≡ digit v ∷ []
  unfolding digits
  digits_one = clause 19 v ∙ rw (lt-ltb v 10 h)

  pub count_one : 1 ≡ length (digits v)
  count_one = rw digits_one

  pub put_one_digit : {room : List ℕ} {at end : ℕ} {room' : List ℕ} → Put (digit v ∷ []) room at end room' → Put (digits v) room at end room'
  put_one_digit p = rw digits_one p

-- one digit more
module _ (v : ℕ) (fits : v < number_bound) (h : 10 ≤ v) where
  enough : digits (v / 10) ≡ digits_in 19 (v / 10)
  unfolding digits
  enough = stable 18 (v / 10) (omega arith)

  first : digits v ≡ cond (ltb v 10) (digit v ∷ []) (digits_in 19 (v / 10) ++ (digit (v % 10) ∷ []))
  unfolding digits
  first = clause 19 v

  pub digits_step : digits v ≡ digits (v / 10) ++ (digit (v % 10) ∷ [])
  digits_step = rw enough (first ∙ rw (le-ltb v 10 h))

  pub count_step : length (digits (v / 10)) + 1 ≡ length (digits v)
  count_step = rw digits_step (sym (length-append (digits (v / 10)) (digit (v % 10) ∷ [])))

  pub put_last_digit : {room : List ℕ} {at end end' : ℕ} {room' room'' : List ℕ} → at + length (digits v) ≤ length room
      → Put (digits (v / 10)) room at end room' → Put (digit (v % 10) ∷ []) room' end end' room'' → Put (digits v) room at end' room''
  put_last_digit k p q = rw digits_step (put_then (rw digits_step at k) p q)

-- two digits at most: where there is one, it is put over the zero in front of it
module _ (v : ℕ) (short : v < 100) where
  digits_two : 10 ≤ v → digits v ≡ digit (v / 10) ∷ digit (v % 10) ∷ []
  digits_two h = digits_step v (omega arith) h ∙ ap (λ l. l ++ (digit (v % 10) ∷ [])) (digits_one (v / 10) (omega arith))

  pub count_two : 10 ≤ v → length (digits v) ≡ 2
  count_two h = rw (digits_two h)

  module _ (room : List ℕ) (at : ℕ) (r : at + length (digits v) ≤ length room) where
    abbrev tens_put : List ℕ
    tens_put = set room at (digit (v / 10))

    pub put_two_digits : (k : ℕ) → length (digits v) ≡ k + 1 → Put (digits v) room at (at + k + 1) (set tens_put (at + k) (digit (v % 10)))
    put_two_digits k l = elim (dec_lt v 10) [
      | yes h ↦
          let None : k ≡ 0 = omega (arith, count_one v h) in
          let same : v % 10 ≡ v = omega arith in
          rw (None, add-zero, same, set-set) (put_one_digit v h (put_one (digit v) room at (omega (arith, count_one v h))))
      | no h ↦
          let Some : 10 ≤ v = omega arith in
          let one : k ≡ 1 = omega (arith, count_two Some) in
          let tens = put_one (digit (v / 10)) room at (omega (arith, count_two Some)) in
          let last = put_one (digit (v % 10)) tens_put (at + 1) (omega (arith, count_two Some, length-set room at (digit (v / 10)))) in
          rw (one, digits_two Some) (put_then (omega (arith, count_two Some)) tens last)
    ]
