-- Lines in the tables that hold, one after the other, and the overall verdict. Assumes nothing.
use Prim.Native.Nat.{ℕ, ◌+◌, ◌<◌}
use mathlib.Core.Path.{◌≡◌, refl, sym, ap}
use mathlib.Core.Bool.{true, false}
use mathlib.Core.List.{List}
use Rattle.constraint.specs.File.{Variable}
use Rattle.constraint.specs.Sound.{Each}
use Rattle.constraint.proofs.EachLaws.{each_last}
use Rattle.store.specs.Tables.{line_in, lines_in}
use Rattle.store.proofs.LineTableLaws.{lines_more}
use Rattle.judge.specs.declared.Overall.{Overall}
use Rattle.judge.specs.declared.Overall.TheVariants.{Satisfied, Violated, Disregarded}
use Rattle.judge.specs.declared.Verdict.TheVariants.{Holds}
use Rattle.judge.specs.Judge.{judge, verdicts_of, overall_of}
use Rattle.judge.proofs.VerdictLaws.{each_line}
use Rattle.judge.proofs.OverallLaws.{LineHolds, holds_by_verdict, verdict_holds_lem, satisfied_holds, holds_satisfied}
use Rattle.writer.specs.Write.{is_satisfied}

module _ (xs : List Variable) (row heads bodies : List ℕ) where
  pub holds_more : (k : ℕ) → Each (LineHolds xs row) (lines_in heads bodies k) → (judge xs row (line_in heads bodies k)).verdict ≡ Holds → Each (LineHolds xs row) (lines_in heads bodies (k + 1))
  holds_more k h e = rw (lines_more heads bodies k) (each_last (LineHolds xs row) (lines_in heads bodies k) (line_in heads bodies k) h (holds_by_verdict xs row (line_in heads bodies k) e))

  module _ (m : ℕ) where
    abbrev overall : Overall
    overall = overall_of (verdicts_of xs row (lines_in heads bodies m))

    pub all_hold : Each (LineHolds xs row) (lines_in heads bodies m) → true ≡ is_satisfied overall
    all_hold h = sym (ap is_satisfied (holds_satisfied xs row (lines_in heads bodies m) h))

    -- line k does not
    pub one_fails : (k : ℕ) → k < m → ((judge xs row (line_in heads bodies k)).verdict ≡ Holds → ⊥) → false ≡ is_satisfied overall
    one_fails k h n = go overall refl
      where
        go : (o : Overall) → overall ≡ o → false ≡ is_satisfied overall
        go Satisfied e = absurd (n (verdict_holds_lem xs row (line_in heads bodies k) (each_line (LineHolds xs row) heads bodies m k (satisfied_holds xs row (lines_in heads bodies m) e) h)))
        go (Violated i) e = sym (ap is_satisfied e)
        go (Disregarded i) e = sym (ap is_satisfied e)
