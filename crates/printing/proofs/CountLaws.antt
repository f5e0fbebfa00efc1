-- A word and a number behind it: the length, and the pieces put one behind another. Assumes nothing.
use Prim.Native.Nat.{ℕ, ◌+◌, ◌≤◌}
use mathlib.Core.Path.{◌≡◌}
use mathlib.Core.List.{List}
use lib.ListN.{length, length-append}
use Rattle.printing.specs.Digits.{digits, counted}
use Rattle.printing.specs.Room.{Put}
use Rattle.printing.proofs.PlaceLaws.{put_then}

module _ (word : List ℕ) (n : ℕ) where
  pub counted_length : length (counted word n) ≡ length word + length (digits n)
  counted_length = length-append word (digits n)

  pub put_counted : {room : List ℕ} {at end₁ end₂ : ℕ} {room₁ room₂ : List ℕ} → at + length (counted word n) ≤ length room
      → Put word room at end₁ room₁ → Put (digits n) room₁ end₁ end₂ room₂ → Put (counted word n) room at end₂ room₂
  put_counted h p q = put_then h p q
