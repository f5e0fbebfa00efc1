use Rattle.std.proofs.Common.{drop, refl}
use native.Mathlib.Omega.{arith}
use Rattle.std.proofs.lemmas.List.{length-drop}
use Rattle.refusal.specs.Lists.{every}
use Rattle.arithmetic.specs.Numbering.{operator_number}
use Rattle.text.specs.Bytes.{same}
use Rattle.spelling.specs.Internal.{key_of, spelt_at}
use Rattle.spelling.specs.Operators.{spellings, bitwise_spellings, predicate_spellings, arithmetic_spellings, shift_and_cast_spellings}
use Rattle.spelling.proofs.SpeltLaws.{spells_none, spelling_short}
use Rattle.spelling.proofs.operator_at.Goals as goal

pub returns-then-len-eq0 : goal.returns-then-len-eq0
returns-then-len-eq0 c e =
    let s = drop c.args.at c.args.text.now in
    spells_none e s (λ op q. let y = spelling_short e s op q in omega (arith, c.then-len-eq0.either, y.0, y.1, length-drop c.args.at c.args.text.now))

-- the tables have the spellings of the definition, in order, each found by its key
pub spelt_by_key-requires : goal.spelt_by_key-requires
unfolding key_of spelt_at spellings bitwise_spellings predicate_spellings arithmetic_spellings shift_and_cast_spellings every same operator_number
spelt_by_key-requires c = (omega arith, omega arith, record { keyed = refl; placed = refl; listed = λ e. refl; found = λ e. refl })
