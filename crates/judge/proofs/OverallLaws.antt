-- What the overall verdict says of the lines. Assumes nothing.
use Prim.Native.Nat.{ℕ, suc, ◌+◌, ◌≤◌, ◌<◌}
use mathlib.Core.Path.{◌≡◌, refl, sym, ap}
use mathlib.Core.Bool.{Bool, true, false, cond, ◌||◌}
use mathlib.Core.List.{List, [], ◌∷◌}
use Rattle.std.specs.Prelude.{Option, None, Some}
use native.Mathlib.Omega.{arith}
use lib.Dec.{eqb}
use lib.ListN.{length, get_or, drop}
use borrow.Author.Tests.{eqb-true, eq-eqb}
use Rattle.std.specs.Prelude.{is_some}
use Rattle.refusal.specs.Lists.{first_from}
use Rattle.refusal.proofs.BoolLaws.{or_false}
use Rattle.refusal.proofs.ResultLaws.{never}
use Rattle.refusal.proofs.ListLaws.{first_none, first_below, first_from_lem, first_here, first_later, first_nowhere}
use Rattle.constraint.specs.declared.Line.{Line}
use Rattle.constraint.specs.File.{Variable, target}
use Rattle.constraint.specs.Sound.{Each}
use Rattle.judge.specs.declared.Overall.{Overall}
use Rattle.judge.specs.declared.Overall.TheVariants.{Satisfied, Violated as ViolatedFirst, Disregarded as DisregardedFirst}
use Rattle.judge.specs.declared.Verdict.{Verdict}
use Rattle.judge.specs.declared.Verdict.TheVariants.{Violated, Holds, Disregarded}
use Rattle.judge.specs.Judge.{verdict_byte, verdict_violated, verdict_holds, verdict_disregarded, result_of, judged, judge, column_of, verdicts_of, first_verdict, overall_by, overall_of}

-- ---- a verdict that was found, or is among those from i on
module _ (v : ℕ) (vs : List ℕ) (i : ℕ) (found : Bool) where
  pub found_more : i < length vs → (found || eqb v (get_or vs i 0) || is_some (first_from (eqb v) (i + 1 + 1) (drop (i + 1) vs))) ≡ (found || is_some (first_from (eqb v) (i + 1) (drop i vs)))
  found_more h = go found (eqb v (get_or vs i 0)) refl
    where
      go : (f t : Bool) → eqb v (get_or vs i 0) ≡ t → (f || t || is_some (first_from (eqb v) (i + 1 + 1) (drop (i + 1) vs))) ≡ (f || is_some (first_from (eqb v) (i + 1) (drop i vs)))
      go true t e = refl
      go false true e = rw (first_here (eqb v) (i + 1) vs i 0 h e)
      go false false e = rw (first_later (eqb v) (i + 1) vs i 0 h e)

  pub found_all : length vs ≤ i → found ≡ (found || is_some (first_from (eqb v) (i + 1) (drop i vs)))
  found_all h = rw (first_nowhere (eqb v) (i + 1) vs i h) (sym (or_false found))

-- ---- the place of a first verdict
-- a line of these verdicts, from 1
pub record Place (n : ℕ) (vs : List ℕ) : Type 0 where
  pub from : 1 ≤ n
  pub to : n ≤ length vs

-- a first verdict has a line
verdict_place : (v n : ℕ) (vs : List ℕ) → first_verdict v vs ≡ Some n → Place n vs
unfolding first_verdict
verdict_place v n vs e = let z = first_below (eqb v) 1 n vs e in record { from = first_from_lem (eqb v) 1 n vs e; to = omega arith }

-- where the overall verdict names a line, it is one
abbrev pub Named : Overall → List ℕ → Type 0
Named Satisfied vs = Unit {0}
Named (ViolatedFirst n) vs = Place n vs
Named (DisregardedFirst n) vs = Place n vs

-- it names the line of a first verdict
named : (vs : List ℕ) (d v : Option ℕ) → first_verdict verdict_disregarded vs ≡ d → first_verdict verdict_violated vs ≡ v → Named (overall_by d v) vs
named vs (Some n) v p q = verdict_place verdict_disregarded n vs p
named vs None (Some n) p q = verdict_place verdict_violated n vs q
named vs None None p q = tt

pub overall_named : (vs : List ℕ) → Named (overall_of vs) vs
unfolding overall_of
overall_named vs = named vs (first_verdict verdict_disregarded vs) (first_verdict verdict_violated vs) refl refl

-- ---- satisfied
-- there is no first 2 and no first 0
by_none : (d v : Option ℕ) → overall_by d v ≡ Satisfied → (d ≡ None) × (v ≡ None)
by_none (Some n) v e = never (cc e)
by_none None (Some n) e = never (cc e)
by_none None None e = (refl, refl)

-- a verdict that is neither 2 nor 0
neither : (v : Verdict) → eqb verdict_disregarded (verdict_byte v) ≡ false → eqb verdict_violated (verdict_byte v) ≡ false → v ≡ Holds
neither Violated d v = never (cc v)
neither Holds d v = refl
neither Disregarded d v = never (cc d)

holds_by : (r goal : ℕ) (t : Bool) → eqb r goal ≡ t → cond t Holds Violated ≡ Holds → Some r ≡ Some goal
holds_by r goal true q h = ap Some (eqb-true r goal q)
holds_by r goal false q h = never (cc h)

judged_holds : (o : Option ℕ) (goal : ℕ) → (judged o goal).verdict ≡ Holds → o ≡ Some goal
judged_holds None goal h = never (cc h)
judged_holds (Some r) goal h = holds_by r goal (eqb r goal) refl h

module _ (xs : List Variable) (row : List ℕ) where
  -- a line holds
  abbrev pub LineHolds : Line → Type 0
  LineHolds l = result_of xs row l ≡ Some (target xs row l.output).value

  -- a line and its verdict
  pub holds_by_verdict : (l : Line) → (judge xs row l).verdict ≡ Holds → LineHolds l
  unfolding judge
  holds_by_verdict l = judged_holds (result_of xs row l) (target xs row l.output).value

  pub verdict_holds_lem : (l : Line) → LineHolds l → (judge xs row l).verdict ≡ Holds
  unfolding judge
  verdict_holds_lem l h = rw (h, eq-eqb (target xs row l.output).value (target xs row l.output).value refl)

  -- no verdict is 2 and none is 0, exactly where each line holds
  lines_hold : (n : ℕ) (ls : List Line) → first_from (eqb verdict_disregarded) n (verdicts_of xs row ls) ≡ None → first_from (eqb verdict_violated) n (verdicts_of xs row ls) ≡ None → Each LineHolds ls
  unfolding column_of
  lines_hold n [] d v = tt
  lines_hold n (l ∷ ls) d v =
      let p = first_none (eqb verdict_disregarded) n (verdict_byte (judge xs row l).verdict) (verdicts_of xs row ls) d in
      let q = first_none (eqb verdict_violated) n (verdict_byte (judge xs row l).verdict) (verdicts_of xs row ls) v in
      (holds_by_verdict l (neither (judge xs row l).verdict p.0 q.0), lines_hold (suc n) ls p.1 q.1)

  none_other : (v n : ℕ) (ls : List Line) → eqb v verdict_holds ≡ false → Each LineHolds ls → first_from (eqb v) n (verdicts_of xs row ls) ≡ None
  unfolding column_of first_from
  none_other v n [] e h = refl
  none_other v n (l ∷ ls) e h = rw (verdict_holds_lem l h.0, e) (none_other v (suc n) ls e h.1)

  -- satisfied, exactly where each line holds
  module _ (ls : List Line) where
    pub satisfied_holds : overall_of (verdicts_of xs row ls) ≡ Satisfied → Each LineHolds ls
    unfolding overall_of first_verdict
    satisfied_holds e = let p = by_none (first_verdict verdict_disregarded (verdicts_of xs row ls)) (first_verdict verdict_violated (verdicts_of xs row ls)) e in lines_hold 1 ls p.0 p.1

    pub holds_satisfied : Each LineHolds ls → overall_of (verdicts_of xs row ls) ≡ Satisfied
    unfolding overall_of first_verdict
    holds_satisfied h = rw (none_other verdict_disregarded 1 ls refl h, none_other verdict_violated 1 ls refl h)
