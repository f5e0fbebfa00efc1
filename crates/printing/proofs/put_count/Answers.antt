use native.Mathlib.Omega.{arith}
use Rattle.printing.proofs.CountLaws.{counted_length, put_counted}
use Rattle.printing.proofs.put_count.Goals as goal

pub put_bytes-number-requires : goal.put_bytes-number-requires
put_bytes-number-requires c = omega (arith, c.requires, counted_length c.args.word.now c.args.n)

pub put_digits-requires : goal.put_digits-requires
put_digits-requires c = omega (arith, c.requires, counted_length c.args.word.now c.args.n)

pub returns : goal.returns
returns c = put_counted _ _ c.requires c.put_bytes-number.ensures c.put_digits.ensures
