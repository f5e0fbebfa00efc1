-- The refusal numbers, each under the words of the table that says when it is "Given exactly when".
use Rattle.std.specs.Prelude.{ℕ, Bool, List, map}
use Rattle.refusal.specs.declared.Fault.{Fault}
use Rattle.refusal.specs.declared.Fault.TheVariants.{FileTooLong, ByteNotAllowed, UnknownLine, MisplacedLine, WrongVersion, WrongExpectation, TokenCount, Misspelt, NotAWidth, NumberTooLarge, OverLimit, NameTaken, NotDeclared, UnknownOperator, TypeRuleBroken, NoSolutionWord, NotSatisfiable, ValueDoesNotFit, SetTwice, NotSet, TooShort, NotSatisfied, NoSuchVariable, HeldDoesNotFit, WrongIndex}
use Rattle.refusal.specs.Lists.{is_one_of}

abbrev pub number_of : Fault → ℕ
-- "file over 65,536 bytes"
number_of FileTooLong = 1
-- "byte not allowed"
number_of ByteNotAllowed = 2
-- "line of no known kind"
number_of UnknownLine = 3
-- "line out of place or repeated; no `v` (answer: no `s`)"
number_of MisplacedLine = 4
-- "`v` .. token wrong"
number_of WrongVersion = 5
-- "`e` token wrong"
number_of WrongExpectation = 6
-- "token missing; surplus"
number_of TokenCount = 7
-- "token misspelt for its place"
number_of Misspelt = 8
-- "K not 1 to 64"
number_of NotAWidth = 9
-- "number 2^64 or more"
number_of NumberTooLarge = 10
-- "long name; 257th declaration; 1,025th line"
number_of OverLimit = 11
-- "reserved or declared before"
number_of NameTaken = 12
-- "not declared"
number_of NotDeclared = 13
-- "unknown operator"
number_of UnknownOperator = 14
-- "type rule or `p` rule broken"
number_of TypeRuleBroken = 15
-- "no solution word of the three"
number_of NoSolutionWord = 16
-- "UNSATISFIABLE or UNKNOWN"
number_of NotSatisfiable = 17
-- "value doesn't fit"
number_of ValueDoesNotFit = 18
-- "set twice"
number_of SetTwice = 19
-- "variable not set"
number_of NotSet = 20
-- "table or output room too short"
number_of TooShort = 21
-- "writer: values don't satisfy"
number_of NotSatisfied = 22
-- "no such variable number"
number_of NoSuchVariable = 23
-- "a held value doesn't fit, or a verdict above 2"
number_of HeldDoesNotFit = 24
-- "for any start, or the end, that is missing, falls or passes the room, or any listed line number, other variables' too, that is 0, too large or not above the one before it in its list"
number_of WrongIndex = 25

-- whether a fault is one of several
abbrev pub is_fault_of : Fault → List Fault → Bool
is_fault_of fault faults = is_one_of (number_of fault) (map number_of faults)
