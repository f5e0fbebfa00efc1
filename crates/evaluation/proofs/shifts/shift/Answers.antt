use Rattle.evaluation.proofs.shifts.shift.Goals as goal

pub returns-in-Shl : goal.returns-in-Shl
returns-in-Shl c = rw c.in-Shl.is c.left.ensures

pub returns-in-Ashr : goal.returns-in-Ashr
returns-in-Ashr c = rw c.in-Ashr.is c.arithmetic_right.ensures

pub returns-in-Lshr : goal.returns-in-Lshr
returns-in-Lshr c = rw c.in-Lshr.is c.logical_right.ensures
