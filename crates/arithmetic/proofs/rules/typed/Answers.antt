use Rattle.arithmetic.specs.Rules.{typed}
use Rattle.arithmetic.proofs.rules.typed.Goals as goal

pub returns-in-Combine : goal.returns-in-Combine
unfolding typed
returns-in-Combine c = rw c.in-Combine.is

pub returns-in-Not : goal.returns-in-Not
unfolding typed
returns-in-Not c = rw c.in-Not.is

pub returns-in-Implies : goal.returns-in-Implies
unfolding typed
returns-in-Implies c = rw c.in-Implies.is

pub returns-in-Compare : goal.returns-in-Compare
unfolding typed
returns-in-Compare c = rw c.in-Compare.is

pub returns-in-Ite : goal.returns-in-Ite
unfolding typed
returns-in-Ite c = rw c.in-Ite.is

pub returns-in-Compute : goal.returns-in-Compute
unfolding typed
returns-in-Compute c = rw c.in-Compute.is

pub returns-in-Divide : goal.returns-in-Divide
unfolding typed
returns-in-Divide c = rw c.in-Divide.is

pub returns-in-Move : goal.returns-in-Move
unfolding typed
returns-in-Move c = rw c.in-Move.is

pub returns-in-Trun : goal.returns-in-Trun
unfolding typed
returns-in-Trun c = rw c.in-Trun.is

pub returns-in-Extend : goal.returns-in-Extend
unfolding typed
returns-in-Extend c = rw c.in-Extend.is

pub returns-in-Conc : goal.returns-in-Conc
unfolding typed
returns-in-Conc c = rw c.in-Conc.is c.joins.ensures

pub returns-in-Extr : goal.returns-in-Extr
unfolding typed
returns-in-Extr c = rw (c.in-Extr.is, c.cuts.ensures)
