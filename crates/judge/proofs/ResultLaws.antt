-- What the lines of an accepted file come to under values that fit. Assumes nothing.
use Prim.Native.Nat.{ℕ}
use mathlib.Core.Path.{◌≡◌, refl, sym, ◌∙◌}
use mathlib.Core.Bool.{Bool, true, false}
use mathlib.Core.List.{List}
use lib.Pow.{pow_pos}
use Rattle.refusal.proofs.ResultLaws.{never}
use Rattle.arithmetic.specs.Claims.{zero_divisor, HasResult}
use Rattle.arithmetic.proofs.ResultLaws.{results_fit}
use Rattle.constraint.specs.declared.Line.{Line}
use Rattle.constraint.specs.File.{Variable, operand_word, target}
use Rattle.constraint.proofs.EachLaws.{each_map}
use Rattle.constraint.proofs.SoundLaws.{accepted_is_sound}
use Rattle.judge.specs.Judge.{result_of, judge}
use Rattle.judge.specs.Claims.{ResultThere, ResultsAreThere}
use Rattle.judge.specs.Fitting.{Fitting}
use Rattle.judge.proofs.FitLaws.{fits_fit}

-- a line that keeps its rules
module _ (xs : List Variable) (row : List ℕ) (l : Line) (h : Fitting xs row l) where
  has : HasResult l.operator (target xs row l.output).width (operand_word xs row l.operands.first) (operand_word xs row l.operands.second) (operand_word xs row l.operands.third)
  has =
      results_fit l.operator (target xs row l.output).width (operand_word xs row l.operands.first) (operand_word xs row l.operands.second) (operand_word xs row l.operands.third) h.widths h.rule h.fit

  line_result_lem : ResultThere xs row l (judge xs row l)
  unfolding judge result_of
  line_result_lem = go (zero_divisor l.operator (operand_word xs row l.operands.second)) refl
    where
      go : (t : Bool) → zero_divisor l.operator (operand_word xs row l.operands.second) ≡ t → ResultThere xs row l (judge xs row l)
      go true e =
          let m = has.missing e in
          record { missing = λ q. (m, rw m); there = λ q. never (cc (sym e ∙ q)); within = rw m (pow_pos (target xs row l.output).width) }
      go false e =
          let w = has.within e in
          record { missing = λ q. never (cc (sym e ∙ q)); there = λ q. rw w.1; within = rw w.1 w.2 }

pub results_are_there : ResultsAreThere
results_are_there bytes f row e h = each_map (line_result_lem f.variables row) f.lines (fits_fit f row (accepted_is_sound bytes f e) h)
