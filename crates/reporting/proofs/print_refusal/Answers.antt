-- The room holds the text of any refusal.
use Rattle.std.proofs.Common.{sym, arith}
use Rattle.std.proofs.lemmas.List.{length-take-le}
use Rattle.printing.proofs.RefusalLaws.{refusal_bound}
use Rattle.reporting.proofs.print_refusal.Goals as goal

pub put_refusal-n-requires : goal.put_refusal-n-requires
put_refusal-n-requires g c = omega (arith, refusal_bound c.args.refusal)

pub slice_bounds-room-end : goal.slice_bounds-room-end
slice_bounds-room-end g c = omega (arith, refusal_bound c.args.refusal)

pub slice_bounds-write_all-end : goal.slice_bounds-write_all-end
slice_bounds-write_all-end g c = sym (length-take-le c.put_refusal-n.result c.put_refusal-n.new.room (omega (arith, refusal_bound c.args.refusal)))
