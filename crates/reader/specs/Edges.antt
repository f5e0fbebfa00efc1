-- The edges of 01, and of line ends: texts, and what is said of them.
use Rattle.std.specs.Prelude.{ℕ, ◌≡◌, List, [], ◌∷◌, map}
use Prim.Native.String.{String}
use Rattle.refusal.specs.declared.Subject.TheVariants.{Constraint}
use Rattle.refusal.specs.declared.Fault.{Fault}
use Rattle.refusal.specs.declared.Fault.TheVariants.{ByteNotAllowed, MisplacedLine, TokenCount, Misspelt, NotAWidth, NumberTooLarge, UnknownOperator, TypeRuleBroken}
use Rattle.refusal.specs.Result.{Reply, Ok, Err, refusal}
use Rattle.refusal.specs.SubjectWords.{ascii}
use Rattle.constraint.specs.declared.Operand.TheVariants.{Const}
use Rattle.reader.specs.declared.Counts.{Counts}
use Rattle.constraint.specs.Read.{read_constant}
use Rattle.reader.specs.Inspect.{inspect_outcome}

pub record Edge : Type 0 where
  pub text : String
  pub reply : Reply Counts

-- a text that is read, with so many variables and lines; and one that is refused, with a fault and a position
abbrev pub read : String → ℕ → ℕ → Edge
read text variables lines = record { text = text; reply = Ok (record { variables = variables; lines = lines }) }

abbrev pub refused_at : String → Fault → ℕ → Edge
refused_at text fault position = record { text = text; reply = Err (refusal Constraint fault position) }

unfoldable pub edges : List Edge
edges =
    refused_at "" MisplacedLine 0
    ∷ read "v 1.0" 0 0
    ∷ read "v 1.0\nd a:i64\np = a 18446744073709551615:i64\n" 1 1
    ∷ refused_at "v 1.0\nd a:i64\np = a 18446744073709551616:i64\n" NumberTooLarge 20
    ∷ read "v 1.0\nd a:i64\n" 1 0
    ∷ refused_at "v 1.0\nd a:i65\n" NotAWidth 8
    ∷ refused_at "v 1.0\nd a:i0\n" NotAWidth 8
    ∷ refused_at "v 1.0\nd a:i08\n" Misspelt 8
    ∷ refused_at "v 1.0\nd a:i8 b:i8\np + a b\n" TypeRuleBroken 20
    ∷ refused_at "v 1.0\nd a:i8\np != a a\n" UnknownOperator 15
    ∷ read "v 1.0\nd hi:i16 lo:i16 r:i32\nc r conc hi lo\n" 3 1
    ∷ refused_at "v 1.0\nd hi:i16 lo:i16 r:i31\nc r conc hi lo\n" TypeRuleBroken 32
    ∷ read "v 1.0\r\nd a:i8\r\n\r\n# x\r\np = a 1:i8\n" 1 1
    ∷ refused_at "v 1.0\r" ByteNotAllowed 5
    ∷ refused_at "v 1.0\r\r\n" ByteNotAllowed 5
    ∷ refused_at "v 1.0\r\n#\rd\n" ByteNotAllowed 8
    ∷ refused_at "v\r\n" TokenCount 1
    ∷ []

pub record Edges : Type 0 where
  pub replies : map (λ e. inspect_outcome (ascii e.text)) edges ≡ map (λ e. e.reply) edges
  -- "So 300:i8 is 44"
  pub reduced : read_constant (record { start = 0; bytes = ascii "300:i8" }) ≡ Ok (Const (record { width = 8; value = 44 }))
