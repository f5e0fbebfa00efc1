-- The hash of a run of bytes, from one byte to the next. Assumes nothing.
use Prim.Native.Nat.{ℕ, ◌+◌, ◌≤◌, ◌<◌}
use mathlib.Core.Path.{◌≡◌, refl, ap, ◌∙◌}
use mathlib.Core.Bool.{Bool, true, false}
use mathlib.Core.List.{List}
use lib.ListN.{length, get_or, take, drop}
use Rattle.text.specs.Bytes.{front_of}
use Rattle.text.specs.Scan.{past}
use Rattle.text.proofs.RunLaws.{run_more, run_stop, run_end, run_part}
use Rattle.store.specs.Hash.{hash_next, hash_after, hash_of}

module _ (p : ℕ → Bool) (f : List ℕ) where
  pub hash_begin : (at : ℕ) → hash_after 0 (front_of p (drop at f)) ≡ hash_of (front_of p (drop at f))
  unfolding hash_of
  hash_begin at = refl

  module _ (h i : ℕ) where
    pub hash_more : i < length f → p (get_or f i 0) ≡ true → hash_after (hash_next h (get_or f i 0)) (front_of p (drop (i + 1) f)) ≡ hash_after h (front_of p (drop i f))
    unfolding hash_after
    hash_more l e = rw (run_more p f i l e)

    pub hash_stop : i < length f → p (get_or f i 0) ≡ false → hash_after h (front_of p (drop i f)) ≡ h
    unfolding hash_after
    hash_stop l e = rw (run_stop p f i l e)

    pub hash_end : length f ≤ i → hash_after h (front_of p (drop i f)) ≡ h
    unfolding hash_after
    hash_end l = rw (run_end p f i l)

  -- the run from `at` to m is the name
  pub hash_name : (at m : ℕ) → at ≤ length f → m ≡ past p f at → hash_of (front_of p (drop at f)) ≡ hash_of (drop at (take m f))
  hash_name at m l e = ap hash_of (run_part p f at l ∙ rw e)
