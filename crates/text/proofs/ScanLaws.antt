-- A scan of a text for the first byte that fails a test: the invariant of its loop, at the start, after a byte that passes, at one that fails and at the text's end. Assumes nothing.
use Prim.Native.Nat.{ℕ, ◌+◌, ◌≤◌, ◌<◌}
use mathlib.Core.Path.{◌≡◌, refl, sym, ◌∙◌}
use mathlib.Core.Bool.{Bool, true, false}
use mathlib.Core.List.{List}
use native.Mathlib.Omega.{arith}
use lib.ListN.{length, get_or}
use Rattle.text.specs.Scan.{past, Scanned}
use Rattle.text.proofs.RunLaws.{past_more, past_stop, past_end}

module _ {test : ℕ → Bool} {text : List ℕ} {at : ℕ} where
  pub scan_starts : at ≤ length text → Scanned test text at at
  scan_starts h = record { within = h; onward = omega arith; ends = refl }

  module _ {i : ℕ} (s : Scanned test text at i) where
    -- with the text
    pub scan_ends : length text ≤ i → i ≡ past test text at
    scan_ends h = sym (past_end test text i h) ∙ s.ends

    -- over what another scan from i passed
    pub scan_leaps : {r : ℕ} → Scanned test text i r → Scanned test text at r
    scan_leaps t = record { within = t.within; onward = omega arith; ends = t.ends ∙ s.ends }

    -- the byte at i, and whether it passes
    module _ (h : i < length text) {r : Bool} (e : r ≡ test (get_or text i 0)) where
      pub scan_steps : r ≡ true → Scanned test text at (i + 1)
      scan_steps k = record { within = omega arith; onward = omega arith; ends = past_more test text i h (sym e ∙ k) ∙ s.ends }

      pub scan_stops : r ≡ false → i ≡ past test text at
      scan_stops k = sym (past_stop test text i h (sym e ∙ k)) ∙ s.ends
