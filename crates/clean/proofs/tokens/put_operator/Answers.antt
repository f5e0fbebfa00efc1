use native.Mathlib.Omega.{arith}
use Rattle.edition.specs.Edition.{edition10}
use Rattle.spelling.specs.Operators.{spelling_of}
use Rattle.clean.proofs.TokenLaws.{operator_length, put_operator}
use Rattle.clean.proofs.tokens.put_operator.Goals as goal

pub put_byte-token-requires : goal.put_byte-token-requires
put_byte-token-requires c = omega (arith, c.requires, operator_length (spelling_of edition10 c.args.op))

pub put_bytes-requires : goal.put_bytes-requires
put_bytes-requires c = let spelling = spelling_of edition10 c.args.op in
    rw (c.symbol_of.ensures edition10) (omega (arith, c.requires, operator_length spelling))

pub returns : goal.returns
returns c = put_operator _ c.requires c.put_byte-token.ensures (rw (c.symbol_of.ensures edition10) at c.put_bytes.ensures)
