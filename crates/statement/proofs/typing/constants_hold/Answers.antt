use Rattle.statement.proofs.TypingLaws.{constant_is}
use Rattle.constraint.specs.TypeRules.{constant_rule}
use Rattle.statement.proofs.typing.constants_hold.Goals as goal

pub returns-in-Extr : goal.returns-in-Extr
unfolding constant_rule
returns-in-Extr c = λ x y. rw (c.in-Extr.is, c.is_constant-in-Extr.ensures, c.is_constant.ensures, constant_is c.args.b x, constant_is c.args.c y)

pub returns-in-Combine : goal.returns-in-Combine
unfolding constant_rule
returns-in-Combine c = λ x y. rw c.in-Combine.is

pub returns-in-Not : goal.returns-in-Not
unfolding constant_rule
returns-in-Not c = λ x y. rw c.in-Not.is

pub returns-in-Implies : goal.returns-in-Implies
unfolding constant_rule
returns-in-Implies c = λ x y. rw c.in-Implies.is

pub returns-in-Compare : goal.returns-in-Compare
unfolding constant_rule
returns-in-Compare c = λ x y. rw c.in-Compare.is

pub returns-in-Ite : goal.returns-in-Ite
unfolding constant_rule
returns-in-Ite c = λ x y. rw c.in-Ite.is

pub returns-in-Compute : goal.returns-in-Compute
unfolding constant_rule
returns-in-Compute c = λ x y. rw c.in-Compute.is

pub returns-in-Divide : goal.returns-in-Divide
unfolding constant_rule
returns-in-Divide c = λ x y. rw c.in-Divide.is

pub returns-in-Move : goal.returns-in-Move
unfolding constant_rule
returns-in-Move c = λ x y. rw c.in-Move.is

pub returns-in-Trun : goal.returns-in-Trun
unfolding constant_rule
returns-in-Trun c = λ x y. rw c.in-Trun.is

pub returns-in-Extend : goal.returns-in-Extend
unfolding constant_rule
returns-in-Extend c = λ x y. rw c.in-Extend.is

pub returns-in-Conc : goal.returns-in-Conc
unfolding constant_rule
returns-in-Conc c = λ x y. rw c.in-Conc.is
