-- The front of a `c` or `p` line.
use Rattle.std.specs.Prelude.{ℕ, List, [], ◌∷◌, ◌++◌}
use Rattle.edition.specs.declared.Edition.{Edition}
use Rattle.spelling.specs.Operators.{spelling_of}
use Rattle.constraint.specs.declared.Line.{Line}
use Rattle.constraint.specs.File.{Variable}
use Rattle.clean_text.specs.Text.{operand_tokens, line_text, statement_letter}

-- its letter, its output if there is one, and its operator
unfoldable pub front_text : Edition → List Variable → Line → List ℕ
front_text e xs l = line_text (statement_letter l.output) (operand_tokens xs l.output ++ (spelling_of e l.operator ∷ []))
