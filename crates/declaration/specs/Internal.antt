-- What the results of this crate's functions mean, in terms of the definitions.
use Rattle.std.specs.Prelude.{ℕ, ◌+◌, ◌≤◌, ◌<◌, ◌≡◌, cond, not, ◌&&◌, List, [], ◌∷◌, ◌++◌, leb, ltb, length, take, is_some, Result}
use Rattle.edition.specs.declared.Edition.{Edition}
use Rattle.edition.specs.Edition.{max_variables, max_name_bytes}
use Rattle.refusal.specs.declared.Fault.{Fault}
use Rattle.refusal.specs.declared.Fault.TheVariants.{Misspelt, NotAWidth, OverLimit, NameTaken}
use Rattle.refusal.specs.Result.{Reply, Ok, Err, ◌>>=◌, refused_as, accepted_as}
use Rattle.text.specs.declared.TypeError.TheVariants.{NoWidth, NoType}
use Rattle.text.specs.declared.Class.TheVariants.{Solid}
use Rattle.text.specs.Scan.{is_of, past, TypeRead}
use Rattle.text.specs.Lines.{Token}
use Rattle.constraint.specs.File.{Variable, variable_named}
use Rattle.spelling.specs.Operators.{is_reserved}
use Rattle.store.specs.Names.{Searchable}
use Rattle.constraint.specs.Read.{in_constraint, declare}

-- a variable of that name with the width, or the token's refusal
abbrev pub declaration_result : Token → List ℕ → Result ℕ Fault → Reply Variable
declaration_result t name r = refused_as (in_constraint t) (accepted_as (λ k. record { name = name; width = k }) r)

-- what is said of a name that is declared with a width, once both are spelt right
unfoldable pub new_name : Edition → List Variable → List ℕ → ℕ → Result ℕ Fault
new_name e xs name k =
    let free = cond (not (is_reserved e name) && not (is_some (variable_named name xs))) (Ok k) (Err NameTaken) in
    cond (leb (length name) max_name_bytes && ltb (length xs) max_variables) free (Err OverLimit)

-- a declaration by its type, and by what is said of its name with a width
abbrev pub declaration_of : TypeRead → (ℕ → Result ℕ Fault) → Result ℕ Fault
declaration_of (Err NoType) new = Err Misspelt
declaration_of (Err NoWidth) new = Err NotAWidth
declaration_of (Ok k) new = new k

-- the variables with the one that a token declares
abbrev pub declared_behind : Edition → List Variable → Token → Reply (List Variable)
declared_behind e xs t = declare e xs t >>= λ x. Ok (xs ++ (x ∷ []))

-- a token that is declared ends where that is said, and the n variables and it can be found
abbrev pub PutHolds : List ℕ → ℕ → ℕ → List ℕ → ℕ → ℕ → Type 0
PutHolds file stop at table n end = (end ≡ past (is_of Solid) (take stop file) at) × (n < max_variables) × Searchable file table (n + 1)

-- the n variables behind a `d` line lie within the table, and can be found
abbrev pub DeclaredHolds : List ℕ → List ℕ → ℕ → Type 0
DeclaredHolds file table n = (n ≤ max_variables) × Searchable file table n
