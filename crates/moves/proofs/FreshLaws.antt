-- A line that does not name a variable does not see its value: so renewing the lines concerned turns the fresh tables of a row into those of the row changed. Assumes nothing.
use Prim.Native.Nat.{ℕ, suc, ◌<◌}
use mathlib.Core.Path.{◌≡◌, refl, sym, ap, ap₂}
use mathlib.Core.Bool.{Bool, true, false, cond, ◌||◌}
use mathlib.Core.List.{List, [], ◌∷◌, map}
use Rattle.std.specs.Prelude.{Option, None, Some}
use lib.Dec.{eqb, ltb}
use lib.ListN.{length, set}
use lib.Seq.{get_or-set_other}
use borrow.Author.Tests.{eqb-false}
use Rattle.refusal.specs.Lists.{first_from}
use Rattle.refusal.proofs.ResultLaws.{never}
use Rattle.constraint.specs.declared.Operand.{Operand}
use Rattle.constraint.specs.declared.Operand.TheVariants.{Absent, Var, Const}
use Rattle.constraint.specs.declared.Line.{Line}
use Rattle.constraint.specs.File.{Variable, File, operand_word, target}
use Rattle.judge.specs.declared.Judged.{Judged}
use Rattle.judge.specs.declared.Verdict.TheVariants.{Violated, Holds}
use Rattle.judge.specs.Judge.{verdict_byte, verdict_disregarded, result_of, judged, judge, column_of, verdicts_of}
use Rattle.judge.specs.InUse.{fresh_tables}
use Rattle.index.specs.Select.{is_variable, names, naming}
use Rattle.index.specs.Index.{Index}
use Rattle.index.specs.Claims.{OwnOrNone}
use Rattle.index.proofs.OwnIndexLaws.{concerned_naming}
use Rattle.moves.specs.Step.{Change, renewed, step}

-- neither of two tests passes
neither : (x y : Bool) → (x || y) ≡ false → (x ≡ false) × (y ≡ false)
neither true y e = never (cc e)
neither false y e = (refl, e)

-- ---- a row with the value v put in at the variable i
module _ (xs : List Variable) (row : List ℕ) (i v : ℕ) where
  -- another operand, and another output
  word_kept : (o : Operand) → is_variable i o ≡ false → operand_word xs (set row i v) o ≡ operand_word xs row o
  unfolding is_variable operand_word
  word_kept Absent e = refl
  word_kept (Var j) e = rw (get_or-set_other row i j v 0 (λ q. eqb-false i j e (sym q)))
  word_kept (Const w) e = refl

  target_kept : (o : Operand) → is_variable i o ≡ false → target xs (set row i v) o ≡ target xs row o
  unfolding target
  target_kept Absent e = refl
  target_kept (Var j) e = word_kept (Var j) e
  target_kept (Const w) e = refl

  -- a line that does not name the variable
  judge_kept : (l : Line) → names i l ≡ false → judge xs row l ≡ judge xs (set row i v) l
  unfolding names judge result_of
  judge_kept l e =
      let os = l.operands in
      let c = neither (is_variable i l.output || is_variable i os.first || is_variable i os.second) (is_variable i os.third) e in
      let b = neither (is_variable i l.output || is_variable i os.first) (is_variable i os.second) c.0 in
      let a = neither (is_variable i l.output) (is_variable i os.first) b.0 in
      rw (target_kept l.output a.0, word_kept os.first a.1, word_kept os.second b.1, word_kept os.third c.1)

-- ---- where what is not selected is the same before and after, renewing makes all of it fresh
renewed_all : {A : Type 0} (g : A → Bool) (old new : A → ℕ) (xs : List A) → ((x : A) → g x ≡ false → old x ≡ new x) → renewed (map g xs) (map new xs) (map old xs) ≡ map new xs
unfolding renewed
renewed_all g old new [] h = refl
renewed_all g old new (x ∷ xs) h = ap₂ (λ (z : ℕ) (zs : List ℕ). z ∷ zs) (go (g x) refl) (renewed_all g old new xs h)
  where
    go : (b : Bool) → g x ≡ b → cond (g x) (new x) (old x) ≡ new x
    go true e = rw e
    go false e = rw e (h x e)

-- a column of it
renewed_fresh : (part : Judged → ℕ) (f : File) (row : List ℕ) (i v : ℕ) → renewed (naming f i) (column_of part f.variables (set row i v) f.lines) (column_of part f.variables row f.lines) ≡ column_of part f.variables (set row i v) f.lines
unfolding naming column_of
renewed_fresh part f row i v = renewed_all (names i) (λ l. part (judge f.variables row l)) (λ l. part (judge f.variables (set row i v) l)) f.lines (λ l e. ap part (judge_kept f.variables row i v l e))

-- so does a change through no index, or the file's own
pub step_fresh : (f : File) (x : Option Index) → OwnOrNone f x → (c : Change) (row : List ℕ) → c.variable < length f.variables → step f x c (fresh_tables f row) ≡ fresh_tables f (set row c.variable c.value)
unfolding step
step_fresh f x own c row h = rw (concerned_naming f x own c.variable h, renewed_fresh (λ j. verdict_byte j.verdict) f row c.variable c.value, renewed_fresh (λ j. j.result) f row c.variable c.value)

-- ---- no verdict is above 2
low : (t : Bool) → ltb verdict_disregarded (verdict_byte (cond t Holds Violated)) ≡ false
low true = refl
low false = refl

judged_low : (o : Option ℕ) (goal : ℕ) → ltb verdict_disregarded (verdict_byte (judged o goal).verdict) ≡ false
judged_low None goal = refl
judged_low (Some r) goal = low (eqb r goal)

pub none_above : (xs : List Variable) (row : List ℕ) (n : ℕ) (ls : List Line) → first_from (ltb verdict_disregarded) n (verdicts_of xs row ls) ≡ None
unfolding column_of first_from judge
none_above xs row n [] = refl
none_above xs row n (l ∷ ls) = rw (judged_low (result_of xs row l) (target xs row l.output).value) (none_above xs row (suc n) ls)
