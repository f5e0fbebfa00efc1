-- What the results of this crate's functions mean, in terms of the definitions.
use Rattle.std.specs.Prelude.{ℕ, ◌%◌, ◌^◌, ◌≤◌, true, List, length, take, drop, Result}
use Rattle.refusal.specs.declared.Fault.{Fault}
use Rattle.refusal.specs.declared.Fault.TheVariants.{Misspelt, NotAWidth, NumberTooLarge}
use Rattle.refusal.specs.Result.{Reply, Ok, Err, ◌>>=◌, refused_as, accepted_as}
use Rattle.text.specs.declared.NumberError.TheVariants.{TooBig, NotANumber}
use Rattle.text.specs.declared.TypeError.TheVariants.{NoWidth, NoType}
use Rattle.text.specs.declared.Class.TheVariants.{Solid}
use Rattle.text.specs.Scan.{is_of, past, Number, TypeRead, token_at}
use Rattle.text.specs.Lines.{Token, tokens_from}
use Rattle.constraint.specs.declared.Operand.{Operand}
use Rattle.operand.specs.declared.Stored.{Stored}
use Rattle.operand.specs.declared.Taken.{Taken}
use Rattle.constraint.specs.File.{Variable}
use Rattle.constraint.specs.Read.{in_constraint}
use Rattle.store.specs.Tables.{operand_of, head_width, HeadFits}

-- an operand that the tables hold, or the token's refusal
abbrev pub operand_result : Token → Result Stored Fault → Reply Operand
operand_result t r = refused_as (in_constraint t) (accepted_as (λ s. operand_of s.head s.body) r)

-- a constant by its number and its type, as they were read
abbrev pub constant_of : Number → TypeRead → Result Stored Fault
constant_of (Err NotANumber) type = Err Misspelt
constant_of (Err TooBig) (Err NoType) = Err Misspelt
constant_of (Err TooBig) (Err NoWidth) = Err NotAWidth
constant_of (Err TooBig) (Ok k) = Err NumberTooLarge
constant_of (Ok v) (Err NoType) = Err Misspelt
constant_of (Ok v) (Err NoWidth) = Err NotAWidth
constant_of (Ok v) (Ok k) = Ok (record { head = head_width k; body = v % 2 ^ k })

-- the next operand, and the tokens from a place on
abbrev pub taken_result : List ℕ → Reply Taken → Reply (Operand × List Token)
taken_result line = accepted_as (λ t. (operand_of t.operand.head t.operand.body, tokens_from true t.stop (drop t.stop line)))

-- the operand that a reading makes of the token that starts at a place, and the tokens behind it
unfoldable pub taken_from : (Token → Reply Operand) → List ℕ → ℕ → Reply (Operand × List Token)
taken_from read line start =
    let stop = past (is_of Solid) line start in
    read (token_at (take stop line) start) >>= λ o. Ok (o, tokens_from true stop (drop stop line))

abbrev pub TakenWithin : List ℕ → Taken → Type 0
TakenWithin line t = t.stop ≤ length line

-- the head of an operand has its width
abbrev pub StoredFits : List Variable → Stored → Type 0
StoredFits xs s = HeadFits xs s.head s.body

abbrev pub TakenFits : List Variable → Taken → Type 0
TakenFits xs t = StoredFits xs t.operand
