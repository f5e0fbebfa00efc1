-- What the results of this crate's functions mean, in terms of the definitions.
use Rattle.std.specs.Prelude.{ℕ, zero, suc, ◌+◌, ◌-◌, ◌≤◌, ◌<◌, true, List, ◌≡◌, length, drop}
use Rattle.refusal.specs.declared.Subject.TheVariants.{Constraint}
use Rattle.refusal.specs.declared.Fault.TheVariants.{TypeRuleBroken}
use Rattle.refusal.specs.Result.{Reply, Ok, refusal, ensure, ◌>>=◌, ◌>>◌}
use Rattle.arithmetic.specs.Rules.{max_operands}
use Rattle.text.specs.Reading.{no_more_tokens}
use Rattle.text.specs.Lines.{TextLine, Token, tokens_from}
use Rattle.constraint.specs.declared.Line.{Line}
use Rattle.constraint.specs.declared.Form.{Form}
use Rattle.constraint.specs.declared.Form.TheVariants.{WithOutput, Predicate}
use Rattle.statement.specs.declared.Reached.{Reached}
use Rattle.constraint.specs.File.{Variable, File}
use Rattle.constraint.specs.TypeRules.{well_typed}
use Rattle.constraint.specs.Read.{next_operand, no_operands, read_operation}
use Rattle.edition.specs.Edition.{max_lines}
use Rattle.store.specs.Tables.{with_operand, HeadsFit}

-- the line, unless there are more tokens or it breaks its type rule; `start` is the operator's place
abbrev pub finished : List Variable → Line → ℕ → List Token → Reply Line
finished xs line start ts = do
  no_more_tokens Constraint ts
  ensure (well_typed xs line) (refusal Constraint TypeRuleBroken start)
  Ok line

-- a line with the next `count` operands in the slots from `slot` on, and the tokens behind them
unfoldable pub place_operands : List Variable → TextLine → ℕ → ℕ → Line → List Token → Reply (Line × List Token)
place_operands xs l slot zero line ts = Ok (line, ts)
place_operands xs l slot (suc count) line ts = next_operand xs l ts >>= λ p. place_operands xs l (suc slot) count (with_operand line slot p.0) p.1

-- what is left to read of a line that is read up to a slot: its output, its operator and operands, or the operands up to the slot `last`
unfoldable pub left_to_read : File → TextLine → ℕ → ℕ → ℕ → Line → List Token → Reply Line
left_to_read f l zero last start line ts = next_operand f.variables l ts >>= λ p. read_operation f l p.0 p.1
left_to_read f l (suc zero) last start line ts = read_operation f l line.output ts
left_to_read f l (suc (suc k)) last start line ts = place_operands f.variables l (suc (suc k)) (last + 1 - suc (suc k)) line ts >>= λ p. finished f.variables p.0 start p.1

-- the same with an operand next
unfoldable pub operand_next : File → TextLine → ℕ → ℕ → ℕ → Line → List Token → Reply Line
operand_next f l slot last start line ts = next_operand f.variables l ts >>= λ p. left_to_read f l (slot + 1) last start (with_operand line slot p.0) p.1

-- how far a line is read lies in it, and no slot is behind the last operand's
pub record InLine (line : List ℕ) (p : Reached) : Type 0 where
  pub at : p.at ≤ length line
  pub least : 1 ≤ p.last
  pub most : p.last ≤ max_operands

-- a part was read: what `left` says of how far the line is read, or the refusal
abbrev pub part_result : List ℕ → (ℕ → ℕ → List Token → Reply Line) → Reply Reached → Reply Line
part_result line left r = r >>= λ p. left p.last p.operator (tokens_from true p.at (drop p.at line))

abbrev pub PartInLine : List ℕ → ℕ → Reached → Type 0
PartInLine line slot p = InLine line p × (slot ≤ p.last)

-- no operand is there before the operator
abbrev pub BlankUpTo : ℕ → Line → Type 0
BlankUpTo slot line = slot ≤ 1 → line.operands ≡ no_operands

-- the first slot of a form
abbrev pub first_slot : Form → ℕ
first_slot WithOutput = 0
first_slot Predicate = 1

-- a line that was read had room, and its heads have the widths of its operands
abbrev pub LineFits : List Variable → List ℕ → List ℕ → ℕ → Type 0
LineFits xs heads bodies m = (m < max_lines) × HeadsFit xs heads bodies m
