-- A loop that puts texts into a room, one behind another. Assumes nothing.
use mathlib.Core.Path.{◌≡◌, refl, ap, ◌∙◌}
use mathlib.Core.List.{List, [], ◌++◌}
use Prim.Native.Nat.{ℕ, zero, suc, ◌+◌, ◌≤◌, ◌<◌}
use native.Mathlib.Numerals.{add-one}
use native.Mathlib.Decide.{dec_lt}
use native.Mathlib.Omega.{arith}
use lib.ListN.{length, length-append}
use Rattle.printing.specs.Room.{Put}
use Rattle.printing.proofs.PlaceLaws.{put_none, put_then}

-- the first n texts of a row, joined
unfoldable pub first_texts : (ℕ → List ℕ) → ℕ → List ℕ
first_texts text zero = []
first_texts text (suc n) = first_texts text n ++ text n

module _ (text : ℕ → List ℕ) where
  pub first_texts_none : first_texts text 0 ≡ []
  unfolding first_texts
  first_texts_none = refl

  pub first_texts_more : (n : ℕ) → first_texts text (n + 1) ≡ first_texts text n ++ text n
  unfolding first_texts
  first_texts_more n = rw (add-one n)

  pub first_texts_length : (n : ℕ) → length (first_texts text (n + 1)) ≡ length (first_texts text n) + length (text n)
  first_texts_length n = ap length (first_texts_more n) ∙ length-append (first_texts text n) (text n)

  -- some texts and the next one are no longer than all
  texts_within : (n i : ℕ) → i < n → length (first_texts text i ++ text i) ≤ length (first_texts text n)
  unfolding first_texts
  texts_within zero i h = let z : ⊥ = omega arith in absurd z
  texts_within (suc n) i h = elim (dec_lt i n) [
    | yes p ↦ omega (arith, texts_within n i p, length-append (first_texts text n) (text n))
    | no p ↦ let e : i ≡ n = omega arith in rw e (omega arith)
  ]

-- the first i texts of n are put
pub record Putting (text : ℕ → List ℕ) (n : ℕ) (room₀ : List ℕ) (at : ℕ) (room : List ℕ) (i end : ℕ) : Type 0 where
  pub within : i ≤ n
  pub whole : length room ≡ length room₀
  pub puts : Put (first_texts text i) room₀ at end room

pub putting_starts : (text : ℕ → List ℕ) (n : ℕ) (room : List ℕ) (at : ℕ) → Putting text n room at room 0 at
putting_starts text n room at = record { within = omega arith; whole = refl; puts = rw first_texts_none (put_none room at) }

module _ {text : ℕ → List ℕ} {n : ℕ} {room₀ : List ℕ} {at : ℕ} {room : List ℕ} {i end : ℕ} (inv : Putting text n room₀ at room i end) where
  module _ (r : at + length (first_texts text n) ≤ length room₀) (h : i < n) where
    -- there is room for the next
    pub putting_room : end + length (text i) ≤ length room
    putting_room = omega (arith, inv.puts.ends, inv.whole, r, length-append (first_texts text i) (text i), texts_within text n i h)

    pub putting_more : {end' : ℕ} {room' : List ℕ} → length room' ≡ length room → Put (text i) room end end' room' → Putting text n room₀ at room' (i + 1) end'
    putting_more k p = record {
      within = omega arith;
      whole = k ∙ inv.whole;
      puts = let e = first_texts_more text i in rw e (put_then (omega (arith, r, texts_within text n i h)) inv.puts p);
    }

  pub putting_done : n ≤ i → Put (first_texts text n) room₀ at end room
  putting_done h = let e : i ≡ n = omega (arith, inv.within) in rw e at inv.puts
