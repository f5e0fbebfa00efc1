-- A token of a run of bytes, a byte behind them that is no such byte, and the rest: its parts in front of that byte and behind it. Assumes nothing.
use Prim.Native.Nat.{ℕ, suc, ◌≤◌}
use mathlib.Core.Path.{◌≡◌, refl, ap, sym, ◌∙◌}
use mathlib.Core.Bool.{Bool, true, false, not}
use mathlib.Core.List.{List, [], ◌∷◌, ◌++◌, append-nil}
use native.Mathlib.Omega.{arith}
use lib.Dec.{eqb}
use lib.ListN.{length, drop_of_length-le}
use borrow.Author.Tests.{eqb-true}
use Rattle.refusal.specs.Lists.{every}
use Rattle.refusal.proofs.BoolLaws.{fails}
use Rattle.refusal.proofs.ListLaws.{every_weaken, every_broken}
use Rattle.refusal.proofs.ResultLaws.{never}
use Rattle.text.specs.Bytes.{front_of}
use Rattle.text.specs.Spelling.{up_to, behind}
use Rattle.text.proofs.AppendLaws.{run_through, run_front}
use Rattle.text.proofs.TokenLaws.{up_to_join, behind_join}

-- the first byte of a run, and of what has none
run_cons : (p : ℕ → Bool) (b : ℕ) (s : List ℕ) → p b ≡ true → front_of p (b ∷ s) ≡ b ∷ front_of p s
unfolding front_of
run_cons p b s e = rw e

pub first_fails : (p : ℕ → Bool) (b : ℕ) (s : List ℕ) → front_of p (b ∷ s) ≡ [] → p b ≡ false
first_fails p b s r = fails (p b) (λ e. omega (arith, ap length (sym (run_cons p b s e) ∙ r)))

module _ (p : ℕ → Bool) (c : ℕ) (separates : p c ≡ false) (front : List ℕ) (e : every p front ≡ true) where
  other : (b : ℕ) → p b ≡ true → not (eqb b c) ≡ true
  other b h = ap not (fails (eqb b c) (λ q. never (cc (h, separates, eqb-true b c q))))

  none_separates : every (λ b. not (eqb b c)) front ≡ true
  none_separates = every_weaken p (λ b. not (eqb b c)) other front e

  -- the separator stands behind the run
  pub part_front : (rest : List ℕ) → up_to c (front ++ (c ∷ []) ++ rest) ≡ front
  part_front rest = up_to_join c rest front none_separates

  pub part_behind : (rest : List ℕ) → behind c (front ++ (c ∷ []) ++ rest) ≡ rest
  part_behind rest = behind_join c rest front none_separates

  -- nothing does
  pub part_bare : behind c (front ++ []) ≡ []
  unfolding behind up_to front_of
  part_bare =
      let r : front_of (λ b. not (eqb b c)) front ≡ front = rw (append-nil front) at (run_front (λ b. not (eqb b c)) front [] none_separates refl) in
      let k : length front ≤ suc (length front) = omega arith in
      rw (append-nil front, r, drop_of_length-le front k)

  -- another byte does: the part in front of the separator has a byte that is not of the run
  pub part_broken : (b : ℕ) (rest : List ℕ) → p b ≡ false → eqb b c ≡ false → every p (up_to c (front ++ b ∷ rest)) ≡ false
  unfolding up_to
  part_broken b rest f d =
      rw (run_through (λ x. not (eqb x c)) front (b ∷ rest) none_separates, run_cons (λ x. not (eqb x c)) b rest (ap not d))
      (every_broken p front b (front_of (λ x. not (eqb x c)) rest) f)
