use Rattle.spear.proofs.packing.pack_change.Goals as goal

pub returns-in-Ok : goal.returns-in-Ok
returns-in-Ok c = rw (c.in-Ok.is, ← c.overall_number.ensures, ← c.deciding_line.ensures) c.verdict_word.ensures

pub returns-in-Err : goal.returns-in-Err
returns-in-Err c = rw c.in-Err.is c.pack_refusal.ensures
