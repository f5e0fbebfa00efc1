use mathlib.Core.Path.{refl}
use Rattle.edition.specs.Edition.{is_width}
use Rattle.refusal.specs.Lists.{every}
use Rattle.arithmetic.specs.Rules.{arity, widths_hold, joins, cuts, typed}
use Rattle.arithmetic.specs.Bits.{bit, places, inverted}
use Rattle.arithmetic.specs.Signed.{signed, modulo, ceiling, quotient}
use Rattle.arithmetic.specs.Flags.{sum, flag_c, carry_in, flag_v, flag_n, flag_z, compared}
use Rattle.arithmetic.specs.Arithmetic.{computed, divided, shifted}
use Rattle.arithmetic.specs.Meaning.{value_of, meaning}
use Rattle.arithmetic.specs.Cases.{cases}
use mathlib.Core.Bool.{xor}
use Rattle.arithmetic.proofs.claims.table_cases.Goals as goal

-- W1 to W12 hold by computation.
pub returns : goal.returns
unfolding is_width every arity widths_hold joins cuts typed bit places inverted signed modulo ceiling quotient sum flag_c carry_in flag_v flag_n flag_z compared computed divided shifted value_of meaning cases xor
returns c = refl
