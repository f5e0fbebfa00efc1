use mathlib.Core.Path.{sym}
use Rattle.arithmetic.specs.Rules.{i1, is}
use Rattle.arithmetic.proofs.RuleLaws.{combine_tests, not_tests, ite_tests}
use Rattle.constraint.specs.TypeRules.{is_predicate}
use Rattle.statement.proofs.typing.is_predicate.Goals as goal

pub returns-in-Combine : goal.returns-in-Combine
unfolding is_predicate
returns-in-Combine c = let s = c.args in
    rw c.in-Combine.is (sym (combine_tests (is i1) s.a s.b s.c _))

pub returns-in-Not : goal.returns-in-Not
unfolding is_predicate
returns-in-Not c = let s = c.args in
    rw c.in-Not.is (sym (not_tests (is i1) s.a s.b s.c))

pub returns-in-Implies : goal.returns-in-Implies
unfolding is_predicate
returns-in-Implies c = rw c.in-Implies.is

pub returns-in-Compare : goal.returns-in-Compare
unfolding is_predicate
returns-in-Compare c = rw c.in-Compare.is

pub returns-in-Ite : goal.returns-in-Ite
unfolding is_predicate
returns-in-Ite c = let s = c.args in
    rw c.in-Ite.is (sym (ite_tests (is i1) s.a s.b s.c))

pub returns-in-Compute : goal.returns-in-Compute
unfolding is_predicate
returns-in-Compute c = rw c.in-Compute.is

pub returns-in-Divide : goal.returns-in-Divide
unfolding is_predicate
returns-in-Divide c = rw c.in-Divide.is

pub returns-in-Move : goal.returns-in-Move
unfolding is_predicate
returns-in-Move c = rw c.in-Move.is

pub returns-in-Trun : goal.returns-in-Trun
unfolding is_predicate
returns-in-Trun c = rw c.in-Trun.is

pub returns-in-Extend : goal.returns-in-Extend
unfolding is_predicate
returns-in-Extend c = rw c.in-Extend.is

pub returns-in-Conc : goal.returns-in-Conc
unfolding is_predicate
returns-in-Conc c = rw c.in-Conc.is

pub returns-in-Extr : goal.returns-in-Extr
unfolding is_predicate
returns-in-Extr c = rw c.in-Extr.is
