-- The widths of an accepted file have one or two digits. Assumes nothing.
use Prim.Native.Nat.{ℕ, zero, suc, ◌<◌}
use mathlib.Core.Path.{◌≡◌, sym}
use mathlib.Core.List.{List, []}
use native.Mathlib.Omega.{arith}
use lib.ListN.{length}
use Rattle.edition.specs.declared.Edition.{Edition}
use Rattle.refusal.specs.Result.{Ok}
use Rattle.constraint.specs.declared.Operand.{Operand}
use Rattle.constraint.specs.declared.Operand.TheVariants.{Absent, Var, Const}
use Rattle.constraint.specs.File.{Variable, File, edition_of, width_at}
use Rattle.constraint.specs.TypeRules.{rule_word}
use Rattle.constraint.specs.Read.{read_file}
use Rattle.constraint.specs.Sound.{Each, SoundOperand, SoundLine, SoundVariable}
use Rattle.constraint.proofs.EachLaws.{each_at}
use Rattle.constraint.proofs.SoundLaws.{accepted_is_sound}
use Rattle.store.specs.declared.Progress.{Progress}
use Rattle.store.specs.Tables.{Store, line_bodies, variables_in, operand_in, line_in}
use Rattle.store.specs.Progress.{stored_file, HeadsInUseFit}
use Rattle.store.proofs.LookupLaws.{variables_length}
use Rattle.store.proofs.VariableTableLaws.{width_held}
use Rattle.judge.proofs.VerdictLaws.{each_line}
use Rattle.clean.specs.Widths.{ShortWidth, ShortWidths}

module _ (e : Edition) (xs : List Variable) (sound : Each (SoundVariable e) xs) where
  variable_short : (i : ℕ) → i < length xs → ShortWidth (width_at xs i)
  unfolding width_at
  variable_short i h = omega (arith, (each_at (SoundVariable e) xs i (record { name = []; width = 0 }) sound h).width.most)

  operand_short : (o : Operand) → SoundOperand xs o → ShortWidth (rule_word xs o).width
  unfolding rule_word
  operand_short Absent s = omega arith
  operand_short (Var i) s = variable_short i s
  operand_short (Const w) s = omega (arith, s.0.most)

-- the operand at a slot of a sound line
slot_sound : (xs : List Variable) (heads bodies : List ℕ) (k slot : ℕ) → SoundLine xs (line_in heads bodies k) → slot < line_bodies → SoundOperand xs (operand_in heads bodies k slot)
unfolding line_in
slot_sound xs heads bodies k zero s h = s.output
slot_sound xs heads bodies k (suc zero) s h = s.first
slot_sound xs heads bodies k (suc (suc zero)) s h = s.second
slot_sound xs heads bodies k (suc (suc (suc zero))) s h = s.third
slot_sound xs heads bodies k (suc (suc (suc (suc slot)))) s h = let z : ⊥ = omega arith in absurd z

module _ (bytes : List ℕ) (t : Store) (p : Progress) where
  abbrev file : File
  file = stored_file bytes t p

  pub widths_short : Ok file ≡ read_file bytes → HeadsInUseFit bytes t p → ShortWidths t p
  widths_short e fit =
      let s = accepted_is_sound bytes file (sym e) in
      let xs = variables_in bytes t.variables p.variables in
      record {
        variables = λ i h. rw (width_held bytes t.variables p.variables i h) at (variable_short (edition_of file) xs s.variables i (omega (arith, variables_length bytes t.variables p.variables)));
        lines = λ k h slot l.
            let line = each_line (SoundLine xs) t.heads t.bodies p.lines k s.lines h in
            rw (fit k h slot l) at (operand_short (edition_of file) xs s.variables (operand_in t.heads t.bodies k slot) (slot_sound xs t.heads t.bodies k slot line l));
      }
