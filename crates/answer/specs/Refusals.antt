-- Which faults an answer can have.
use Rattle.std.specs.Prelude.{List, [], ◌∷◌}
use Rattle.refusal.specs.declared.Fault.{Fault}
use Rattle.refusal.specs.declared.Fault.TheVariants.{FileTooLong, ByteNotAllowed, UnknownLine, MisplacedLine, TokenCount, Misspelt, NumberTooLarge, OverLimit, NotDeclared, NoSolutionWord, NotSatisfiable, ValueDoesNotFit, SetTwice, NotSet}

-- 1 to 4, 7, 8, 10, 11, 13, 16 to 20
unfoldable pub answer_faults : List Fault
answer_faults =
    FileTooLong
    ∷ ByteNotAllowed
    ∷ UnknownLine
    ∷ MisplacedLine
    ∷ TokenCount
    ∷ Misspelt
    ∷ NumberTooLarge
    ∷ OverLimit
    ∷ NotDeclared
    ∷ NoSolutionWord
    ∷ NotSatisfiable
    ∷ ValueDoesNotFit
    ∷ SetTwice
    ∷ NotSet
    ∷ []
