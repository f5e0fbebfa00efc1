-- Which faults a constraint file can have.
use Rattle.std.specs.Prelude.{List, [], ◌∷◌}
use Rattle.refusal.specs.declared.Fault.{Fault}
use Rattle.refusal.specs.declared.Fault.TheVariants.{FileTooLong, ByteNotAllowed, UnknownLine, MisplacedLine, WrongVersion, WrongExpectation, TokenCount, Misspelt, NotAWidth, NumberTooLarge, OverLimit, NameTaken, NotDeclared, UnknownOperator, TypeRuleBroken}

-- 1 to 15
unfoldable pub constraint_faults : List Fault
constraint_faults =
    FileTooLong
    ∷ ByteNotAllowed
    ∷ UnknownLine
    ∷ MisplacedLine
    ∷ WrongVersion
    ∷ WrongExpectation
    ∷ TokenCount
    ∷ Misspelt
    ∷ NotAWidth
    ∷ NumberTooLarge
    ∷ OverLimit
    ∷ NameTaken
    ∷ NotDeclared
    ∷ UnknownOperator
    ∷ TypeRuleBroken
    ∷ []
