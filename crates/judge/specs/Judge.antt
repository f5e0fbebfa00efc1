-- The verdicts on the lines of a file under a row of values, one for each variable in declaration order, and the lines' results.
use Rattle.std.specs.Prelude.{ℕ, List, map, eqb, Option, None, Some}
use Rattle.refusal.specs.Lists.{first_from}
use Rattle.arithmetic.specs.Meaning.{meaning}
use Rattle.constraint.specs.declared.Line.{Line}
use Rattle.constraint.specs.File.{Variable, File, operand_word, target}
use Rattle.judge.specs.declared.Judged.{Judged}
use Rattle.judge.specs.declared.Overall.{Overall}
use Rattle.judge.specs.declared.Overall.TheVariants.{Satisfied, Violated, Disregarded}
pub use Rattle.judge.specs.Verdict.{verdict_byte, verdict_violated, verdict_holds, verdict_disregarded, judged}

-- the result of a line, of the width of its target; missing where its divisor is zero. An accepted file's lines keep their rules, so under values that fit nothing else makes it missing (`ResultsAreThere`)
unfoldable pub result_of : List Variable → List ℕ → Line → Option ℕ
result_of xs row l = meaning l.operator (target xs row l.output).width (operand_word xs row l.operands.first) (operand_word xs row l.operands.second) (operand_word xs row l.operands.third)

-- "A line holds if the result equals the output (`c`) or is 1 (`p`)"
unfoldable pub judge : List Variable → List ℕ → Line → Judged
judge xs row l = judged (result_of xs row l) (target xs row l.output).value

-- a column of a table of lines: one part of what each line is judged
unfoldable pub column_of : (Judged → ℕ) → List Variable → List ℕ → List Line → List ℕ
column_of part xs row = map (λ l. part (judge xs row l))

-- the verdicts on lines, and "the operator's result as a 64-bit word: for a `p` line 0 or 1, for a disregarded line 0"
abbrev pub verdicts_of : List Variable → List ℕ → List Line → List ℕ
verdicts_of = column_of (λ j. verdict_byte j.verdict)

abbrev pub results_of : List Variable → List ℕ → List Line → List ℕ
results_of = column_of (λ j. j.result)

-- those of a row, "worked out anew for every line by the meanings": the fresh check
abbrev pub fresh_verdicts : File → List ℕ → List ℕ
fresh_verdicts f row = verdicts_of f.variables row f.lines

abbrev pub fresh_results : File → List ℕ → List ℕ
fresh_results f row = results_of f.variables row f.lines

-- the line, from 1, of the first verdict v
unfoldable pub first_verdict : ℕ → List ℕ → Option ℕ
first_verdict v = first_from (eqb v) 1

-- "disregarded if any line is 2, else violated if any is 0, else satisfied; the first two name the first such line, from 1"
abbrev pub overall_by : Option ℕ → Option ℕ → Overall
overall_by (Some n) other = Disregarded n
overall_by None (Some n) = Violated n
overall_by None None = Satisfied

unfoldable pub overall_of : List ℕ → Overall
overall_of vs = overall_by (first_verdict verdict_disregarded vs) (first_verdict verdict_violated vs)

-- the number of an overall verdict: "0 satisfied, 1 violated, 2 disregarded"
abbrev pub overall_number : Overall → ℕ
overall_number Satisfied = 0
overall_number (Violated n) = 1
overall_number (Disregarded n) = 2
