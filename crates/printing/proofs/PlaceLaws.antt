-- Texts put into a room: nothing, one byte, one text behind another, a text byte by byte. Assumes nothing.
use mathlib.Core.Path.{◌≡◌, refl, sym, ap, ◌∙◌}
use mathlib.Core.List.{List, [], ◌∷◌, ◌++◌}
use Prim.Native.Nat.{ℕ, suc, ◌+◌, ◌≤◌, ◌<◌}
use native.Mathlib.Nat.{zero-add, add-zero}
use native.Mathlib.Numerals.{add-one}
use native.Mathlib.Omega.{arith}
use lib.ListN.{length, get_or, take, drop, set, length-append, length-set}
use lib.Seq.{sets, length-sets, sets-eq, paste, paste-zero, paste-suc, take-length, take-append_seam}
use Rattle.printing.specs.Room.{placed, Put}

-- a text put is its bytes stored one by one
placed_sets : (text room : List ℕ) (at : ℕ) → at + length text ≤ length room → placed room at text ≡ sets room at text
unfolding placed
placed_sets text room at h = sym (sets-eq text room at h)

sets_append : (a b room : List ℕ) (at : ℕ) → sets room at (a ++ b) ≡ sets (sets room at a) (at + length a) b
sets_append [] b room at = rw add-zero
sets_append (x ∷ a) b room at =
    let e : suc at + length a ≡ at + suc (length a) = omega arith in
    sets_append a b (set room at x) (suc at) ∙ ap (λ n. sets (sets (set room at x) (suc at) a) n b) e

-- nothing, one byte, and a text behind another
pub put_none : (room : List ℕ) (at : ℕ) → Put [] room at at room
unfolding placed
put_none room at = record { ends = sym (add-zero at); holds = paste-zero room at [] }

pub put_one : (b : ℕ) (room : List ℕ) (at : ℕ) → at < length room → Put (b ∷ []) room at (at + 1) (set room at b)
put_one b room at h = record { ends = refl; holds = sym (placed_sets (b ∷ []) room at (omega arith)) }

placed_then : (a b room : List ℕ) (at : ℕ) → at + length (a ++ b) ≤ length room → placed (placed room at a) (at + length a) b ≡ placed room at (a ++ b)
placed_then a b room at h =
    let l = length-append a b in
    let m = length-sets room at a in
    ap (λ r. placed r (at + length a) b) (placed_sets a room at (omega arith))
    ∙ placed_sets b (sets room at a) (at + length a) (omega arith)
    ∙ sym (sets_append a b room at)
    ∙ sym (placed_sets (a ++ b) room at h)

module _ {a b room : List ℕ} {at end end' : ℕ} {room' room'' : List ℕ} where
  pub put_then : at + length (a ++ b) ≤ length room → Put a room at end room' → Put b room' end end' room'' → Put (a ++ b) room at end' room''
  put_then h p q = record {
    ends = omega (arith, p.ends, q.ends, length-append a b);
    holds = q.holds ∙ rw (p.ends, p.holds) (placed_then a b room at h);
  }

-- a loop that puts a text byte by byte: the first i are put
pub record Copying (text room₀ : List ℕ) (at : ℕ) (room : List ℕ) (i : ℕ) : Type 0 where
  pub within : i ≤ length text
  pub whole : length room ≡ length room₀
  pub copied : room ≡ paste room₀ at text i

pub copying_starts : (text room : List ℕ) (at : ℕ) → Copying text room at room 0
copying_starts text room at = record { within = omega arith; whole = refl; copied = paste-zero room at text }

module _ {text room₀ : List ℕ} {at : ℕ} {room : List ℕ} {i : ℕ} (inv : Copying text room₀ at room i) where
  pub copying_more : at + length text ≤ length room₀ → i < length text → Copying text room₀ at (set room (at + i) (get_or text i 0)) (i + 1)
  copying_more h k = record {
    within = omega arith;
    whole = length-set room (at + i) (get_or text i 0) ∙ inv.whole;
    copied = ap (λ r. set r (at + i) (get_or text i 0)) inv.copied ∙ rw add-one (paste-suc room₀ at text i 0 (omega arith) k);
  }

  pub copying_done : length text ≤ i → Put text room₀ at (at + i) room
  unfolding placed
  copying_done h =
      let e : i ≡ length text = omega (arith, inv.within) in
      record { ends = omega arith; holds = inv.copied ∙ rw (e, take-length text) }

-- a text put at the front
pub placed_front : (text room : List ℕ) → placed room 0 text ≡ text ++ drop (length text) room
unfolding placed
placed_front text room = rw zero-add

module _ {text room : List ℕ} {end : ℕ} {room' : List ℕ} (p : Put text room 0 end room') where
  pub front_length : end ≡ length text
  front_length = p.ends ∙ zero-add (length text)

  pub front_is : take end room' ≡ text
  front_is = rw (front_length, p.holds, placed_front text room) (take-append_seam text (drop (length text) room))
