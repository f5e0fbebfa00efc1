-- Lines that are read are sound. Assumes nothing.
use Prim.Native.Nat.{ℕ, zero, suc, ◌<◌}
use mathlib.Core.Path.{◌≡◌, refl}
use mathlib.Core.Bool.{true}
use mathlib.Core.List.{List, [], ◌∷◌, map}
use native.Mathlib.Nat.{mod-lt}
use native.Mathlib.Omega.{arith}
use lib.Dec.{ltb}
use lib.ListN.{length, take, length-append}
use lib.Pow.{pow_pos}
use borrow.Author.Tests.{ltb-true}
use Rattle.edition.specs.declared.Edition.{Edition}
use Rattle.edition.specs.Edition.{max_lines, is_width}
use Rattle.refusal.specs.declared.Subject.TheVariants.{Constraint}
use Rattle.refusal.specs.Lists.{every}
use Rattle.refusal.proofs.ResultLaws.{Yields, yields_accepted, yields_bind, yields_ensure, yields_given, yields_also}
use Rattle.arithmetic.specs.declared.Operator.{Operator}
use Rattle.arithmetic.specs.Rules.{arity, widths_hold}
use Rattle.arithmetic.proofs.RuleLaws.{widths_hold_lem}
use Rattle.text.specs.Lines.{TextLine, Token, arguments}
use Rattle.text.proofs.ReadingLaws.{yields_next, yields_no_more}
use Rattle.constraint.specs.declared.Operand.{Operand}
use Rattle.constraint.specs.declared.Operand.TheVariants.{Absent, Var, Const}
use Rattle.constraint.specs.declared.Operands.{Operands}
use Rattle.constraint.specs.declared.Line.{Line}
use Rattle.constraint.specs.declared.Form.{Form}
use Rattle.constraint.specs.declared.Form.TheVariants.{WithOutput, Predicate}
use Rattle.constraint.specs.File.{Variable, File, with_line, edition_of}
use Rattle.spelling.specs.Operators.{operator_named}
use Rattle.constraint.specs.TypeRules.{rule_word, result_width, well_typed}
use Rattle.constraint.specs.Read.{read_operand, next_operand, no_operands, in_front, read_operands, read_operation, next_output, read_statement}
use Rattle.constraint.specs.Sound.{Each, SoundOperand, SoundLine, SoundVariable, SoundFile}
use Rattle.constraint.proofs.EachLaws.{each_last, each_front}
use Rattle.constraint.proofs.TokenLaws.{operand_yields}
use Rattle.constraint.proofs.VariableLaws.{width_test, variable_width, variable_within}
use Rattle.arithmetic.proofs.RuleLaws.{width_is}

-- ---- operands
-- a sound operand that is there
abbrev Present : List Variable → Operand → Type 0
Present xs Absent = ⊥
Present xs (Var i) = SoundOperand xs (Var i)
Present xs (Const w) = SoundOperand xs (Const w)

sound : (xs : List Variable) (o : Operand) → Present xs o → SoundOperand xs o
sound xs Absent h = tt
sound xs (Var i) h = h
sound xs (Const w) h = h

present_yields : (xs : List Variable) (t : Token) → Yields (Present xs) (read_operand xs t)
present_yields xs t = operand_yields t xs (variable_within t.bytes xs) (λ _ _ w _. (width_is _ w, mod-lt _ (pow_pos _)))

next_yields : (xs : List Variable) (l : TextLine) (ts : List Token) → Yields (λ p. Present xs p.0) (next_operand xs l ts)
unfolding next_operand
next_yields xs l ts =
    yields_next Constraint l ts λ p _.
    yields_bind (present_yields xs p.0) λ o h.
    yields_accepted h

-- operands in their places; there is no place behind the third
abbrev pub packed : List Operand → Operands
packed [] = no_operands
packed (o ∷ os) = in_front o (packed os)

-- an output, which is there or not
output_yields : (form : Form) (xs : List Variable) (l : TextLine) (ts : List Token) → Yields (λ p. SoundOperand xs p.0) (next_output form xs l ts)
unfolding next_output
output_yields WithOutput xs l ts = yields_also (λ p h. sound xs p.0 h) (next_yields xs l ts)
output_yields Predicate xs l ts = yields_accepted tt

-- sound operands, of which the first n are there
record SoundOperands (xs : List Variable) (n : ℕ) (os : Operands) : Type 0 where
  first : SoundOperand xs os.first
  second : SoundOperand xs os.second
  third : SoundOperand xs os.third
  there : Each (Present xs) (take n (os.first ∷ os.second ∷ os.third ∷ []))

operands_yield : (xs : List Variable) (l : TextLine) (n : ℕ) (ts : List Token) → Yields (λ p. SoundOperands xs n p.0) (read_operands xs l n ts)
unfolding read_operands
operands_yield xs l zero ts = yields_accepted (record { first = tt; second = tt; third = tt; there = tt })
operands_yield xs l (suc n) ts =
    yields_bind (next_yields xs l ts) λ p h.
    yields_bind (operands_yield xs l n p.1) λ q k.
    let os = q.0 in
    yields_accepted (record {
      first = sound xs p.0 h;
      second = k.first;
      third = k.second;
      there = (h, each_front (Present xs) n (os.first ∷ os.second ∷ []) (os.third ∷ []) k.there);
    })

-- ---- the widths of a line
module _ (e : Edition) (xs : List Variable) (h : Each (SoundVariable e) xs) where
  present_width : (o : Operand) → Present xs o → is_width (rule_word xs o).width ≡ true
  unfolding rule_word
  present_width Absent p = absurd p
  present_width (Var i) p = variable_width e xs i h p
  present_width (Const w) p = width_test w.width p.0

  target_width : (o : Operand) → SoundOperand xs o → is_width (result_width xs o) ≡ true
  unfolding result_width is_width
  target_width Absent p = refl
  target_width (Var i) p = variable_width e xs i h p
  target_width (Const w) p = width_test w.width p.0

  present_widths : (n : ℕ) (os : List Operand) → Each (Present xs) (take n os) → every (λ w. is_width w.width) (take n (map (rule_word xs) os)) ≡ true
  unfolding every
  present_widths zero os p = refl
  present_widths (suc n) [] p = refl
  present_widths (suc n) (o ∷ os) p = rw (present_width o p.0) (present_widths n os p.1)

  widths_there : (op : Operator) (o a b c : Operand) → SoundOperand xs o → Each (Present xs) (take (arity op) (a ∷ b ∷ c ∷ [])) → widths_hold op (result_width xs o) (rule_word xs a) (rule_word xs b) (rule_word xs c) ≡ true
  widths_there op o a b c p q = widths_hold_lem op (rule_word xs a) (rule_word xs b) (rule_word xs c) (result_width xs o) (target_width o p) (present_widths (arity op) (a ∷ b ∷ c ∷ []) q)

-- ---- the parts of a line that is read, in a file of any lines
pub record SoundParts (xs : List Variable) (line : Line) : Type 0 where
  pub type_rules : well_typed xs line ≡ true
  pub output : SoundOperand xs line.output
  pub first : SoundOperand xs line.operands.first
  pub second : SoundOperand xs line.operands.second
  pub third : SoundOperand xs line.operands.third
  there : Each (Present xs) (take (arity line.operator) (line.operands.first ∷ line.operands.second ∷ line.operands.third ∷ []))

module _ (f : File) (l : TextLine) where
  operation_parts : (output : Operand) (ts : List Token) → SoundOperand f.variables output → Yields (SoundParts f.variables) (read_operation f l output ts)
  unfolding read_operation
  operation_parts output ts o =
      yields_next Constraint l ts λ p _.
      yields_given (operator_named (edition_of f) p.0.bytes) _ λ op _.
      yields_bind (operands_yield f.variables l (arity op) p.1) λ q k.
      let line : Line = record { output = output; operator = op; operands = q.0 } in
      yields_no_more Constraint q.1 λ _.
      yields_ensure (well_typed f.variables line) _ λ w.
      yields_accepted (record { type_rules = w; output = o; first = k.first; second = k.second; third = k.third; there = k.there })

  pub statement_parts : (form : Form) → Yields (λ line. (length f.lines < max_lines) × SoundParts f.variables line) (read_statement form f l)
  unfolding read_statement
  statement_parts form =
      yields_ensure (ltb (length f.lines) max_lines) _ λ e.
      yields_bind (output_yields form f.variables l (arguments l)) λ p o.
      yields_also (λ line k. (ltb-true (length f.lines) max_lines e, k)) (operation_parts p.0 p.1 o)

-- ---- one line more
module _ (f : File) (h : SoundFile f) where
  sound_line : (line : Line) → SoundParts f.variables line → SoundLine f.variables line
  sound_line line p =
      let os = line.operands in
      record {
        type_rules = p.type_rules;
        widths = widths_there (edition_of f) f.variables h.variables line.operator line.output os.first os.second os.third p.output p.there;
        output = p.output;
        first = p.first;
        second = p.second;
        third = p.third;
      }

  with_line_lem : (line : Line) → (length f.lines < max_lines) × SoundParts f.variables line → SoundFile (with_line f line)
  with_line_lem line (room, p) = record {
    few_variables = h.few_variables;
    few_lines = rw length-append (omega arith);
    variables = h.variables;
    distinct = h.distinct;
    lines = each_last (SoundLine f.variables) f.lines line h.lines (sound_line line p);
  }

  pub statement_keeps : (l : TextLine) (form : Form) → Yields (λ line. SoundFile (with_line f line)) (read_statement form f l)
  statement_keeps l form = yields_also with_line_lem (statement_parts f l form)
