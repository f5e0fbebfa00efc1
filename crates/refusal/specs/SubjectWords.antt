-- The words that a report has for what a refusal speaks of.
use Rattle.std.specs.Prelude.{ℕ, List, [], ◌∷◌}
use Prim.Native.Char.{code}
use Prim.Native.String.{String, [] as ε, ◌∷◌ as ◌∷ˢ◌}
use Rattle.refusal.specs.declared.Subject.{Subject}
use Rattle.refusal.specs.declared.Subject.TheVariants.{Constraint, Answer, Values, Verdicts, Output, Call, Starts, Lists, Results}

-- the bytes of a text in ASCII
abbrev pub ascii : String → List ℕ
ascii ε = []
ascii (c ∷ˢ s) = code c ∷ ascii s

-- "constraint" and "answer" are 01's words; the others are ours
abbrev pub subject_word : Subject → List ℕ
subject_word Constraint = ascii "constraint"
subject_word Answer = ascii "answer"
subject_word Values = ascii "values"
subject_word Verdicts = ascii "verdicts"
subject_word Output = ascii "output"
subject_word Call = ascii "call"
subject_word Starts = ascii "starts"
subject_word Lists = ascii "lists"
subject_word Results = ascii "results"
