-- Whether a number is in a list: in none, in one with a number in front, in one with a number at the end. Assumes nothing.
use Prim.Native.Nat.{ℕ, suc}
use mathlib.Core.Path.{◌≡◌, refl, sym, ap, ◌∙◌}
use mathlib.Core.Bool.{Bool, true, false, cond, ◌||◌, or_assoc}
use mathlib.Core.List.{List, [], ◌∷◌, ◌++◌}
use Rattle.std.specs.Prelude.{Option, Some}
use lib.Dec.{eqb}
use Rattle.std.specs.Prelude.{is_some}
use Rattle.refusal.specs.Lists.{first_from, is_one_of}
use Rattle.refusal.proofs.BoolLaws.{or_false}

-- a first is there or not, wherever the count begins
there_by : (t : Bool) (a b : ℕ) (p q : Option ℕ) → is_some p ≡ is_some q → is_some (cond t (Some a) p) ≡ is_some (cond t (Some b) q)
there_by true a b p q e = refl
there_by false a b p q e = e

there_from : (test : ℕ → Bool) (a b : ℕ) (ns : List ℕ) → is_some (first_from test a ns) ≡ is_some (first_from test b ns)
unfolding first_from
there_from test a b [] = refl
there_from test a b (n ∷ ns) = there_by (test n) a b (first_from test (suc a) ns) (first_from test (suc b) ns) (there_from test (suc a) (suc b) ns)

there_or : (t : Bool) (a : ℕ) (p : Option ℕ) → is_some (cond t (Some a) p) ≡ (t || is_some p)
there_or true a p = refl
there_or false a p = refl

-- a list with no number, and one with a number in front
pub one_of_none : (n : ℕ) → is_one_of n [] ≡ false
unfolding is_one_of first_from
one_of_none n = refl

pub one_of_cons : (n m : ℕ) (ns : List ℕ) → is_one_of n (m ∷ ns) ≡ (eqb n m || is_one_of n ns)
unfolding is_one_of first_from
one_of_cons n m ns = there_or (eqb n m) 0 (first_from (eqb n) 1 ns) ∙ ap (λ (t : Bool). eqb n m || t) (there_from (eqb n) 1 0 ns)

-- one with a number at the end
pub one_of_end : (n m : ℕ) (ns : List ℕ) → is_one_of n (ns ++ (m ∷ [])) ≡ (is_one_of n ns || eqb n m)
one_of_end n m [] = rw (one_of_cons n m [], one_of_none n, or_false (eqb n m)) refl
one_of_end n m (a ∷ ns) = rw (one_of_cons n a (ns ++ (m ∷ [])), one_of_cons n a ns, one_of_end n m ns) (sym (or_assoc (eqb n a) (is_one_of n ns) (eqb n m)))
