-- The file's own index lists the lines that name a variable. Assumes nothing.
use Prim.Native.Nat.{ℕ, suc, ◌<◌}
use mathlib.Core.Path.{◌≡◌, refl}
use mathlib.Core.Bool.{Bool, true, false}
use mathlib.Core.List.{List, [], ◌∷◌, map}
use native.Mathlib.Omega.{arith}
use borrow.Author.Tests.{eq-eqb, ne_eqb}
use Rattle.refusal.specs.Lists.{is_one_of}
use Rattle.constraint.specs.declared.Line.{Line}
use Rattle.constraint.specs.File.{File}
use Rattle.index.specs.Select.{names, naming}
use Rattle.index.specs.Index.{numbers_from, own_list}
use Rattle.index.specs.AnyIndex.{numbered}
use Rattle.refusal.proofs.OneOfLaws.{one_of_none, one_of_cons}
use Rattle.index.proofs.SelectLaws.{numbered_below}

-- a number below those of the lines is none of theirs
not_below : (n m : ℕ) (bs : List Bool) → n < m → is_one_of n (numbers_from m bs) ≡ false
unfolding numbers_from
not_below n m [] h = one_of_none n
not_below n m (true ∷ bs) h = rw (one_of_cons n m (numbers_from (suc m) bs), ne_eqb n m (λ e. omega arith)) (not_below n (suc m) bs (omega arith))
not_below n m (false ∷ bs) h = not_below n (suc m) bs (omega arith)

-- the selected lines' numbers select these lines
pub numbered_own : (g : Line → Bool) (n : ℕ) (ls : List Line) → numbered (numbers_from n (map g ls)) n ls ≡ map g ls
unfolding numbered numbers_from
numbered_own g n [] = refl
numbered_own g n (l ∷ ls) = go (g l) (numbered_own g (suc n) ls)
  where
    go : (b : Bool) → numbered (numbers_from (suc n) (map g ls)) (suc n) ls ≡ map g ls → numbered (numbers_from n (b ∷ map g ls)) n (l ∷ ls) ≡ b ∷ map g ls
    go true rest =
        let ns = numbers_from (suc n) (map g ls) in
        rw (one_of_cons n n ns, eq-eqb n n refl, numbered_below n (suc n) ns ls (omega arith), rest) refl
    go false rest = rw (not_below n (suc n) (map g ls) (omega arith), rest) refl

pub own_list_selects : (f : File) (i : ℕ) → numbered (own_list f i) 1 f.lines ≡ naming f i
unfolding own_list naming
own_list_selects f i = numbered_own (names i) 1 f.lines
