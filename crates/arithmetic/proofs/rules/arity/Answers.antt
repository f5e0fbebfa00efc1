use Rattle.arithmetic.specs.Rules.{arity}
use Rattle.arithmetic.proofs.rules.arity.Goals as goal

pub returns-in-Not : goal.returns-in-Not
unfolding arity
returns-in-Not c = rw c.in-Not.is

pub returns-in-Trun : goal.returns-in-Trun
unfolding arity
returns-in-Trun c = rw c.in-Trun.is

pub returns-in-Extend : goal.returns-in-Extend
unfolding arity
returns-in-Extend c = rw c.in-Extend.is

pub returns-in-Combine : goal.returns-in-Combine
unfolding arity
returns-in-Combine c = rw c.in-Combine.is

pub returns-in-Implies : goal.returns-in-Implies
unfolding arity
returns-in-Implies c = rw c.in-Implies.is

pub returns-in-Compare : goal.returns-in-Compare
unfolding arity
returns-in-Compare c = rw c.in-Compare.is

pub returns-in-Compute : goal.returns-in-Compute
unfolding arity
returns-in-Compute c = rw c.in-Compute.is

pub returns-in-Divide : goal.returns-in-Divide
unfolding arity
returns-in-Divide c = rw c.in-Divide.is

pub returns-in-Move : goal.returns-in-Move
unfolding arity
returns-in-Move c = rw c.in-Move.is

pub returns-in-Conc : goal.returns-in-Conc
unfolding arity
returns-in-Conc c = rw c.in-Conc.is

pub returns-in-Ite : goal.returns-in-Ite
unfolding arity
returns-in-Ite c = rw c.in-Ite.is

pub returns-in-Extr : goal.returns-in-Extr
unfolding arity
returns-in-Extr c = rw c.in-Extr.is
