-- Parts of texts, compared block by block. Assumes nothing.
use Prim.Native.Nat.{ℕ, zero, suc, ◌+◌, ◌≤◌, ◌<◌}
use mathlib.Core.Path.{◌≡◌, refl, sym, ◌∙◌}
use mathlib.Core.Bool.{Bool, true, false, ◌&&◌}
use mathlib.Core.List.{List}
use native.Mathlib.Nat.{add-zero, zero-add}
use native.Mathlib.Numerals.{add-one}
use native.Mathlib.Omega.{arith}
use lib.Dec.{eqb}
use lib.ListN.{length, get_or}
use lib.Seq.{drop-cons}
use Rattle.refusal.proofs.BoolLaws.{and_one}
use Rattle.text.specs.Bytes.{same}
use Rattle.text.specs.Scan.{same_at}
use Rattle.text.proofs.NameLaws.{same_from, from_step}

and_assoc : (x y z : Bool) → ((x && y) && z) ≡ (x && (y && z))
and_assoc true y z = refl
and_assoc false y z = refl

module _ (f t : List ℕ) where
  at_none : (a b : ℕ) → same_at f a t b 0 ≡ true
  unfolding same_at same
  at_none a b = refl

  -- the first byte, and those behind it
  at_more : (n a b : ℕ) → a < length f → b < length t → same_at f a t b (suc n) ≡ (eqb (get_or f a 0) (get_or t b 0) && same_at f (a + 1) t (b + 1) n)
  unfolding same_at same
  at_more n a b h k = rw (drop-cons f a 0 h, drop-cons t b 0 k, add-one a, add-one b)

  pub at_two : (a b : ℕ) → a + 2 ≤ length f → b + 2 ≤ length t → (eqb (get_or f a 0) (get_or t b 0) && eqb (get_or f (a + 1) 0) (get_or t (b + 1) 0)) ≡ same_at f a t b 2
  at_two a b h k = sym (rw (at_more 1 a b (omega arith) (omega arith), at_more 0 (a + 1) (b + 1) (omega arith) (omega arith), at_none, and_one))

  -- the n bytes at two places, and the m behind them
  pub at_add : (n a b m : ℕ) → a + (n + m) ≤ length f → b + (n + m) ≤ length t → (same_at f a t b n && same_at f (a + n) t (b + n) m) ≡ same_at f a t b (n + m)
  at_add zero a b m h k = rw (at_none a b, add-zero a, add-zero b, zero-add m)
  at_add (suc n) a b m h k =
      let e : suc n + m ≡ suc (n + m) = omega arith in
      let p : a + suc n ≡ a + 1 + n = omega arith in
      let q : b + suc n ≡ b + 1 + n = omega arith in
      rw (e, p, q, at_more n a b (omega arith) (omega arith), at_more (n + m) a b (omega arith) (omega arith), and_assoc, at_add n (a + 1) (b + 1) m (omega arith) (omega arith))

-- the comparison from its i-th byte on: n bytes, and those behind them
module _ (f t : List ℕ) (start len at : ℕ) (k : start + len ≤ length f) (l : at + len ≡ length t) where
  block_split : (n i : ℕ) → i + n ≤ len → same_from f t start len at i ≡ (same_at f (start + i) t (at + i) n && same_from f t start len at (i + n))
  block_split zero i h = rw (at_none f t, add-zero)
  block_split (suc n) i h =
      let p : start + (i + 1) ≡ start + i + 1 = omega arith in
      let q : at + (i + 1) ≡ at + i + 1 = omega arith in
      let r : i + suc n ≡ i + 1 + n = omega arith in
      from_step f t start len at i (omega arith) (omega arith) (omega arith)
      ∙ rw (block_split n (i + 1) (omega arith), p, q, r, at_more f t n (start + i) (at + i) (omega arith) (omega arith), and_assoc)

  module _ (n i : ℕ) (h : i + n ≤ len) where
    pub block_same : same_at f (start + i) t (at + i) n ≡ true → same_from f t start len at (i + n) ≡ same_from f t start len at i
    block_same e = sym (block_split n i h ∙ rw e)

    pub block_other : same_at f (start + i) t (at + i) n ≡ false → same_from f t start len at i ≡ false
    block_other e = block_split n i h ∙ rw e
