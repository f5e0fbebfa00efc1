use Rattle.judge.proofs.RoomLaws.{values_short, verdicts_short, results_short, room_accepted}
use Rattle.judge.proofs.in_use.tables_room.Goals as goal

pub returns-then-values-n : goal.returns-then-values-n
returns-then-values-n c f n m = rw c.of.ensures (values_short f _ (rw n c.if-values-n.true))

pub returns-then-verdicts-m : goal.returns-then-verdicts-m
returns-then-verdicts-m c f n m = rw c.of-then-verdicts-m.ensures (verdicts_short f _ (rw n c.if-values-n.false) (rw m c.if-verdicts-m.true))

pub returns-then-results-m : goal.returns-then-results-m
returns-then-results-m c f n m = rw c.of-then-results-m.ensures (results_short f _ (rw n c.if-values-n.false) (rw m c.if-verdicts-m.false) (rw m c.if-results-m.true))

pub returns : goal.returns
returns c f n m = room_accepted f _ (record { values = rw n c.if-values-n.false; verdicts = rw m c.if-verdicts-m.false; results = rw m c.if-results-m.false })
