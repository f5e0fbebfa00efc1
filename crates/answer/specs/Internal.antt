-- What this crate's functions find in a token, in terms of the definitions.
use Rattle.std.specs.Prelude.{ℕ, ◌<◌, ◌^◌, ◌≡◌, cond, List, [], ◌∷◌, eqb, leb, ltb, length, Option, None, Some, Result, Ok, Err}
use Prim.Native.Char.{code}
use Rattle.edition.specs.Edition.{max_name_bytes}
use Rattle.refusal.specs.declared.Fault.{Fault}
use Rattle.refusal.specs.declared.Fault.TheVariants.{OverLimit, NotDeclared, ValueDoesNotFit}
use Rattle.text.specs.declared.NumberError.TheVariants.{NotANumber}
use Rattle.text.specs.Scan.{Number, number_read}
use Rattle.text.specs.Spelling.{max_digits}
use Rattle.constraint.specs.File.{Variable, width_at, variable_named}
use Rattle.answer.specs.declared.Setting.{Setting}

-- a value behind an equals sign
unfoldable pub number_behind_equals : List ℕ → Number
number_behind_equals [] = Err NotANumber
number_behind_equals (b ∷ s) = cond (eqb b (code "=")) (number_read max_digits s) (Err NotANumber)

-- the setting of the variable that was found, by a token that stops at `stop`, if the value fits it
abbrev pub setting_if_fits : List Variable → ℕ → ℕ → Option ℕ → Result Setting Fault
setting_if_fits xs stop v None = Err NotDeclared
setting_if_fits xs stop v (Some i) = cond (ltb v (2 ^ width_at xs i)) (Ok (record { variable = i; value = v; stop = stop })) (Err ValueDoesNotFit)

-- what is said of a name that is set to the value v, once both are spelt right
unfoldable pub setting_named : List Variable → List ℕ → ℕ → ℕ → Result Setting Fault
setting_named xs name stop v = cond (leb (length name) max_name_bytes) (setting_if_fits xs stop v (variable_named name xs)) (Err OverLimit)

-- the variable of a setting is one of n, and its token stops at `end`
abbrev pub SettingIn : ℕ → ℕ → Result Setting Fault → Type 0
SettingIn n end (Ok s) = (s.variable < n) × (s.stop ≡ end)
SettingIn n end (Err fault) = Unit {0}
