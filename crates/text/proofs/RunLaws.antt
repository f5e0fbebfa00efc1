-- Runs of bytes that pass a test: where a run ends, what it is made of, and when it is the whole text. Assumes nothing.
use Prim.Native.Nat.{ℕ, zero, suc, ◌+◌, ◌≤◌, ◌<◌}
use mathlib.Core.Path.{◌≡◌, refl, ap, sym, ◌∙◌}
use mathlib.Core.List.{List, [], ◌∷◌, ◌++◌}
use mathlib.Core.Bool.{Bool, true, false, cond, ◌&&◌}
use native.Mathlib.Decide.{ℕ_discrete}
use native.Mathlib.Numerals.{add-one}
use native.Mathlib.Omega.{arith}
use lib.Dec.{eqb, eqb-zero-suc, eqb-suc-suc}
use lib.ListN.{length, get_or, take, drop, length-append, length-take, length-drop, drop_of_length-le}
use lib.Seq.{get_or-drop, drop-cons, drop-drop, drop_at, take-add, take-length, length-take-le}
use borrow.Author.Tests.{eq-eqb, ne_eqb}
use Rattle.refusal.specs.Lists.{every}
use Rattle.refusal.proofs.BoolLaws.{and_true}
use Rattle.refusal.proofs.ResultLaws.{never}
use Rattle.text.specs.Bytes.{front_of}
use Rattle.text.specs.Scan.{past}

-- a part of a text, counted from its start and from the text's
pub drop-take : (n m : ℕ) (f : List ℕ) → n ≤ length f → drop n (take (n + m) f) ≡ take m (drop n f)
drop-take n m f h = rw (take-add, drop_at (take n f) (take m (drop n f)) n (length-take-le n f h))

-- a run is a front of what it is a run of
pub run_take : (p : ℕ → Bool) (s : List ℕ) → front_of p s ≡ take (length (front_of p s)) s
unfolding front_of
run_take p [] = refl
run_take p (b ∷ s) = go (p b) (front_of p s) (run_take p s)
  where
    go : (t : Bool) (r : List ℕ) → r ≡ take (length r) s → cond t (b ∷ r) [] ≡ take (length (cond t (b ∷ r) [])) (b ∷ s)
    go true r ih = ap (λ (l : List ℕ). b ∷ l) ih
    go false r ih = refl

-- behind it stands a byte that does not pass
run_fails : (p : ℕ → Bool) (s : List ℕ) → length (front_of p s) < length s → p (get_or s (length (front_of p s)) 0) ≡ false
unfolding front_of
run_fails p [] h = absurd (omega arith)
run_fails p (b ∷ s) h = go (p b) refl (front_of p s) (run_fails p s) h
  where
    go : (t : Bool) → p b ≡ t → (r : List ℕ) → (length r < length s → p (get_or s (length r) 0) ≡ false) → length (cond t (b ∷ r) []) < length (b ∷ s) → p (get_or (b ∷ s) (length (cond t (b ∷ r) [])) 0) ≡ false
    go true e r ih h = ih (omega arith)
    go false e r ih h = e

-- every byte passes where the run is as long as the text
every_run : (p : ℕ → Bool) (s : List ℕ) → every p s ≡ eqb (length (front_of p s)) (length s)
unfolding front_of every
every_run p [] = refl
every_run p (b ∷ s) = go (p b) (front_of p s) (every_run p s)
  where
    go : (t : Bool) (r : List ℕ) → every p s ≡ eqb (length r) (length s) → (t && every p s) ≡ eqb (length (cond t (b ∷ r) [])) (length (b ∷ s))
    go true r ih = ih ∙ sym (eqb-suc-suc (length r) (length s))
    go false r ih = sym (eqb-zero-suc (length s))

-- the bytes of a run pass
pub every_of_run : (p : ℕ → Bool) (s : List ℕ) → every p (front_of p s) ≡ true
unfolding front_of every
every_of_run p [] = refl
every_of_run p (b ∷ s) = go (p b) refl (front_of p s) (every_of_run p s)
  where
    go : (t : Bool) → p b ≡ t → (r : List ℕ) → every p r ≡ true → every p (cond t (b ∷ r) []) ≡ true
    go true e r ih = rw (e, ih)
    go false e r ih = refl

-- in a text whose bytes all pass, the run at each place is all that follows
pub run_rest : (p : ℕ → Bool) (s : List ℕ) (n : ℕ) → every p s ≡ true → front_of p (drop n s) ≡ drop n s
unfolding front_of every
run_rest p [] zero h = refl
run_rest p [] (suc n) h = refl
run_rest p (b ∷ s) zero h = let q = and_true (p b) (every p s) h in rw q.0 (ap (λ (l : List ℕ). b ∷ l) (run_rest p s 0 q.1))
run_rest p (b ∷ s) (suc n) h = run_rest p s n (and_true (p b) (every p s) h).1

-- behind a run no other begins
run_none : (p : ℕ → Bool) (s : List ℕ) → front_of p (drop (length (front_of p s)) s) ≡ []
unfolding front_of
run_none p [] = refl
run_none p (b ∷ s) = go (p b) refl (run_none p s)
  where
    go : (t : Bool) → p b ≡ t → front_of p (drop (length (front_of p s)) s) ≡ [] → front_of p (drop (length (cond t (b ∷ front_of p s) [])) (b ∷ s)) ≡ []
    go true e ih = ih
    go false e ih = rw e

-- a stricter test, within a run of the other
module _ (p q : ℕ → Bool) (stricter : (b : ℕ) → p b ≡ true → q b ≡ true) where
  run_run : (s : List ℕ) → front_of p (front_of q s) ≡ front_of p s
  unfolding front_of
  run_run [] = refl
  run_run (b ∷ s) = go (p b) refl (q b) refl (run_run s)
    where
      go : (t : Bool) → p b ≡ t → (u : Bool) → q b ≡ u → front_of p (front_of q s) ≡ front_of p s → front_of p (cond u (b ∷ front_of q s) []) ≡ cond t (b ∷ front_of p s) []
      go true e true d ih = rw (e, ih)
      go true e false d ih = never (cc (d, stricter b e))
      go false e true d ih = rw e
      go false e false d ih = refl

  -- a run of the other begins with the run of the stricter
  run_split : (s : List ℕ) → front_of q s ≡ front_of p s ++ front_of q (drop (length (front_of p s)) s)
  unfolding front_of
  run_split [] = refl
  run_split (b ∷ s) = go (p b) refl (q b) refl (run_split s)
    where
      go : (t : Bool) → p b ≡ t → (u : Bool) → q b ≡ u → front_of q s ≡ front_of p s ++ front_of q (drop (length (front_of p s)) s) → cond u (b ∷ front_of q s) [] ≡ cond t (b ∷ front_of p s) [] ++ front_of q (drop (length (cond t (b ∷ front_of p s) [])) (b ∷ s))
      go true e true d ih = ap (λ (l : List ℕ). b ∷ l) ih
      go true e false d ih = never (cc (d, stricter b e))
      go false e true d ih = rw d
      go false e false d ih = rw d

  -- both runs end where a byte fails both
  run_same : (s : List ℕ) → (length (front_of p s) < length s → q (get_or s (length (front_of p s)) 0) ≡ false) → length (front_of q s) ≡ length (front_of p s)
  unfolding front_of
  run_same [] h = refl
  run_same (b ∷ s) h = go (p b) refl (q b) refl (run_same s) h
    where
      go : (t : Bool) → p b ≡ t → (u : Bool) → q b ≡ u → ((length (front_of p s) < length s → q (get_or s (length (front_of p s)) 0) ≡ false) → length (front_of q s) ≡ length (front_of p s)) → (length (cond t (b ∷ front_of p s) []) < length (b ∷ s) → q (get_or (b ∷ s) (length (cond t (b ∷ front_of p s) [])) 0) ≡ false) → length (cond u (b ∷ front_of q s) []) ≡ length (cond t (b ∷ front_of p s) [])
      go true e true d ih h = ap suc (ih (λ (l : length (front_of p s) < length s). h (omega arith)))
      go true e false d ih h = never (cc (d, stricter b e))
      go false e true d ih h = never (cc (d, h (omega arith)))
      go false e false d ih h = refl

-- the run at i and where it ends, from one place to the next
module _ (p : ℕ → Bool) (f : List ℕ) (i : ℕ) where
  pub run_more : i < length f → p (get_or f i 0) ≡ true → front_of p (drop i f) ≡ get_or f i 0 ∷ front_of p (drop (i + 1) f)
  unfolding front_of
  run_more h e = rw (add-one, drop-cons f i 0 h, front_of, e)

  pub run_stop : i < length f → p (get_or f i 0) ≡ false → front_of p (drop i f) ≡ []
  unfolding front_of
  run_stop h e = rw (drop-cons f i 0 h, front_of, e)

  pub run_end : length f ≤ i → front_of p (drop i f) ≡ []
  unfolding front_of
  run_end h = rw (drop_of_length-le f h)

  pub past_more : i < length f → p (get_or f i 0) ≡ true → past p f (i + 1) ≡ past p f i
  unfolding past
  past_more h e = rw (run_more h e) (omega arith)

  pub past_stop : i < length f → p (get_or f i 0) ≡ false → past p f i ≡ i
  unfolding past
  past_stop h e = rw (run_stop h e) (omega arith)

  pub past_end : length f ≤ i → past p f i ≡ i
  unfolding past
  past_end h = rw (run_end h) (omega arith)

  pub past_ge : i ≤ past p f i
  unfolding past
  past_ge = omega arith

  pub past_le : i ≤ length f → past p f i ≤ length f
  unfolding past
  past_le h = omega (arith, simp length-take at (ap length (run_take p (drop i f))), length-drop i f)

  -- a byte that does not pass stands there, unless the text ends
  pub past_fails : past p f i < length f → p (get_or f (past p f i) 0) ≡ false
  unfolding past
  past_fails h = (ap p (sym (get_or-drop i f (length (front_of p (drop i f))) 0))) ∙ run_fails p (drop i f) (omega (arith, length-drop i f))

  -- the bytes of the run
  pub run_part : i ≤ length f → front_of p (drop i f) ≡ drop i (take (past p f i) f)
  unfolding past
  run_part h = rw drop-take (run_take p (drop i f))

  -- a run that ends with the text is all of it
  pub run_all : i ≤ length f → past p f i ≡ length f → front_of p (drop i f) ≡ drop i f
  run_all h e = run_part h ∙ rw (e, take-length)

  -- every byte from i on passes where the run ends with the text
  pub every_past : i ≤ length f → every p (drop i f) ≡ eqb (past p f i) (length f)
  unfolding past
  every_past h =
      let l = length-drop i f in
      every_run p (drop i f)
      ∙ elim (ℕ_discrete (length (front_of p (drop i f))) (length (drop i f))) [
        | yes e ↦ (let z : i + length (front_of p (drop i f)) ≡ length f = omega arith in eq-eqb _ _ e ∙ sym (eq-eqb _ _ z))
        | no e ↦ ne_eqb _ _ e ∙ sym (ne_eqb _ _ (λ (g : i + length (front_of p (drop i f)) ≡ length f). e (omega arith)))
      ]

-- behind the end, every byte passes
pub every_end : (p : ℕ → Bool) (f : List ℕ) (i : ℕ) → length f ≤ i → every p (drop i f) ≡ true
unfolding every
every_end p f i h = rw (drop_of_length-le f h)

-- what a scan from `at` says that ends at m
module _ (p : ℕ → Bool) (f : List ℕ) (at m : ℕ) (h : at ≤ length f) (hm : m ≡ past p f at) where
  pub scan_bounds : (at ≤ m) × (m ≤ length f)
  scan_bounds = (omega (arith, past_ge p f at), omega (arith, past_le p f at h))

  pub scan_place : at + length (front_of p (drop at f)) ≡ m
  unfolding past
  scan_place = sym hm

  pub scan_all : m ≡ length f → every p (drop at f) ≡ true
  scan_all e = every_past p f at h ∙ eq-eqb _ _ (sym hm ∙ e)

  pub scan_not : m < length f → every p (drop at f) ≡ false
  scan_not l = every_past p f at h ∙ ne_eqb _ _ (λ (e : past p f at ≡ length f). let z : ⊥ = omega arith in absurd z)

-- a scan by a stricter test: it ends where the other does, or before that
module _ (p q : ℕ → Bool) (stricter : (b : ℕ) → p b ≡ true → q b ≡ true) (f : List ℕ) (i m : ℕ) (h : i ≤ length f) (hm : m ≡ past p f i) where
  pub strict_every : every p (drop i (take m f)) ≡ true
  strict_every = rw (hm, ← run_part p f i h) (every_of_run p (drop i f))

  pub strict_same : (m < length f → q (get_or f m 0) ≡ false) → m ≡ past q f i
  unfolding past
  strict_same k =
      let e = run_same p q stricter (drop i f) (λ l. ap q (get_or-drop i f (length (front_of p (drop i f))) 0) ∙ rw hm at (k (omega (arith, length-drop i f)))) in
      omega arith

  pub strict_within : m ≡ past p (take (past q f i) f) i
  unfolding past
  strict_within = hm ∙ rw (← run_part q f i h, run_run p q stricter (drop i f))

  pub strict_before : m < length f → q (get_or f m 0) ≡ true → m < past q f i
  strict_before l k = elim (ℕ_discrete m (past q f i)) [
    | yes e ↦ never (cc (k, rw (← e) at (past_fails q f i (omega arith))))
    | no e ↦ (let w = past_le p (take (past q f i) f) i (omega (arith, length-take-le (past q f i) f (past_le q f i h), past_ge q f i)) in omega (arith, strict_within, length-take-le (past q f i) f (past_le q f i h)))
  ]

  -- from where it ends, the other goes on
  pub strict_split : front_of q (drop i f) ≡ front_of p (drop i f) ++ front_of q (drop m f)
  unfolding past
  strict_split = run_split p q stricter (drop i f) ∙ rw (drop-drop, ← hm)

  pub strict_on : past q f m ≡ past q f i
  unfolding past
  strict_on = omega (arith, ap length strict_split, length-append (front_of p (drop i f)) (front_of q (drop m f)))

  pub strict_rest : front_of p (front_of q (drop m f)) ≡ []
  unfolding past
  strict_rest = run_run p q stricter (drop m f) ∙ rw (hm, ← drop-drop) (run_none p (drop i f))
