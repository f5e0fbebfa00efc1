use mathlib.Core.Path.{refl}
use native.Mathlib.Omega.{arith}
use Rattle.printing.proofs.RefusalLaws.{printed_length, put_refusal}
use Rattle.printing.proofs.refusals.put_refusal.Goals as goal

pub put_count-numbered-requires : goal.put_count-numbered-requires
put_count-numbered-requires c = omega (arith, c.requires, printed_length c.args.refusal c.number.ensures refl)

pub put_byte-word-requires : goal.put_byte-word-requires
put_byte-word-requires c = omega (arith, c.requires, printed_length c.args.refusal c.number.ensures refl)

pub put_bytes-named-requires : goal.put_bytes-named-requires
put_bytes-named-requires c = omega (arith, c.requires, printed_length c.args.refusal c.number.ensures c.word.ensures)

pub put_count-requires : goal.put_count-requires
put_count-requires c = omega (arith, c.requires, printed_length c.args.refusal c.number.ensures c.word.ensures)

pub returns : goal.returns
returns c = put_refusal c.args.refusal c.number.ensures c.word.ensures c.requires c.put_count-numbered.ensures c.put_byte-word.ensures c.put_bytes-named.ensures c.put_count.ensures
