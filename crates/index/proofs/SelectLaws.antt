-- The lines whose numbers are in a list, place by place, and with one number more. Assumes nothing.
use Prim.Native.Nat.{ℕ, zero, suc, ◌+◌, ◌<◌}
use mathlib.Core.Path.{◌≡◌, refl, sym, ap, ap₂, ◌∙◌}
use mathlib.Core.Bool.{Bool, true, false}
use mathlib.Core.List.{List, [], ◌∷◌, ◌++◌}
use Rattle.std.specs.Prelude.{Option, None, Some}
use native.Mathlib.Nat.{add-zero}
use native.Mathlib.Decide.{ℕ_discrete}
use native.Mathlib.Omega.{arith}
use lib.ListN.{length, get_or, set, replicate, length-map, length-set}
use lib.Seq.{get_or-set_same, get_or-set_other, ext_get_or}
use borrow.Author.Tests.{eq-eqb, ne_eqb}
use Rattle.refusal.specs.Lists.{is_one_of}
use Rattle.refusal.proofs.BoolLaws.{or_true, or_false}
use Rattle.constraint.specs.declared.Line.{Line}
use Rattle.constraint.specs.File.{File}
use Rattle.index.specs.Select.{names, naming}
use Rattle.index.specs.Index.{Index}
use Rattle.index.specs.AnyIndex.{list_in, numbered, concerned}
use Rattle.refusal.proofs.OneOfLaws.{one_of_none, one_of_cons, one_of_end}

-- ---- a Boolean for each line
pub numbered_length : (ns : List ℕ) (n : ℕ) (ls : List Line) → length (numbered ns n ls) ≡ length ls
unfolding numbered
numbered_length ns n [] = refl
numbered_length ns n (l ∷ ls) = ap suc (numbered_length ns (suc n) ls)

pub concerned_length : (f : File) (x : Option Index) (i : ℕ) → length (concerned f x i) ≡ length f.lines
unfolding naming
concerned_length f None i = length-map f.lines (names i)
concerned_length f (Some x) i = numbered_length (list_in x i) 1 f.lines

-- ---- place by place
pub numbered_at : (ns : List ℕ) (n : ℕ) (ls : List Line) (j : ℕ) → j < length ls → get_or (numbered ns n ls) j false ≡ is_one_of (n + j) ns
unfolding numbered
numbered_at ns n [] j h = let z : ⊥ = omega arith in absurd z
numbered_at ns n (l ∷ ls) zero h = rw (add-zero n) refl
numbered_at ns n (l ∷ ls) (suc j) h = let e : suc n + j ≡ n + suc j = omega arith in numbered_at ns (suc n) ls j (omega arith) ∙ ap (λ (k : ℕ). is_one_of k ns) e

pub numbered_none : (ns : List ℕ) (n : ℕ) (ls : List Line) (j : ℕ) → is_one_of (n + j) ns ≡ false → get_or (numbered ns n ls) j false ≡ false
unfolding numbered
numbered_none ns n [] j h = refl
numbered_none ns n (l ∷ ls) zero h = rw (add-zero n) at h
numbered_none ns n (l ∷ ls) (suc j) h = let e : suc n + j ≡ n + suc j = omega arith in numbered_none ns (suc n) ls j (ap (λ (k : ℕ). is_one_of k ns) e ∙ h)

-- ---- no number, and one more
pub numbered_nothing : (n : ℕ) (ls : List Line) → numbered [] n ls ≡ replicate (length ls) false
unfolding numbered
numbered_nothing n [] = refl
numbered_nothing n (l ∷ ls) = ap₂ (λ (b : Bool) (bs : List Bool). b ∷ bs) (one_of_none n) (numbered_nothing (suc n) ls)

module _ (ns : List ℕ) (k n : ℕ) (ls : List Line) (h : k < length ls) where
  abbrev more : List ℕ
  more = ns ++ ((n + k) ∷ [])

  more_at : (j : ℕ) → j < length ls → get_or (numbered more n ls) j false ≡ get_or (set (numbered ns n ls) k true) j false
  more_at j q = elim (ℕ_discrete j k) [
    | yes e ↦ rw (e, numbered_at more n ls k h, get_or-set_same (numbered ns n ls) k true false (omega (arith, numbered_length ns n ls)), one_of_end (n + k) (n + k) ns, eq-eqb (n + k) (n + k) refl) (or_true (is_one_of (n + k) ns))
    | no d ↦ rw (numbered_at more n ls j q, get_or-set_other (numbered ns n ls) k j true false d, numbered_at ns n ls j q, one_of_end (n + j) (n + k) ns, ne_eqb (n + j) (n + k) (omega arith)) (or_false (is_one_of (n + j) ns))
  ]

  pub numbered_more : numbered (ns ++ ((n + k) ∷ [])) n ls ≡ set (numbered ns n ls) k true
  numbered_more =
      let a = numbered_length more n ls in
      ext_get_or false (numbered more n ls) (set (numbered ns n ls) k true) (a ∙ sym (length-set (numbered ns n ls) k true ∙ numbered_length ns n ls)) (λ j q. more_at j (omega arith))

-- ---- a number below those of the lines makes no difference
pub numbered_below : (n m : ℕ) (ns : List ℕ) (ls : List Line) → n < m → numbered (n ∷ ns) m ls ≡ numbered ns m ls
unfolding numbered
numbered_below n m ns [] h = refl
numbered_below n m ns (l ∷ ls) h = rw (one_of_cons m n ns, ne_eqb m n (λ e. omega arith), numbered_below n (suc m) ns ls (omega arith)) refl
