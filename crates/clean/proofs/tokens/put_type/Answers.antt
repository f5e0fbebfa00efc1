use native.Mathlib.Omega.{arith}
use Rattle.clean.proofs.TokenLaws.{type_length, put_type}
use Rattle.clean.proofs.tokens.put_type.Goals as goal

pub put_bytes-digits-requires : goal.put_bytes-digits-requires
put_bytes-digits-requires c = omega (arith, c.requires.1, type_length c.args.width)

pub put_below_hundred-requires : goal.put_below_hundred-requires
put_below_hundred-requires c = (c.requires.0, omega (arith, c.requires.1, type_length c.args.width))

pub returns : goal.returns
returns c = put_type _ c.requires.1 c.put_bytes-digits.ensures c.put_below_hundred.ensures
