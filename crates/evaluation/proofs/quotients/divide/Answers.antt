use Rattle.std.proofs.Common.{div-add-mod', arith}
use Rattle.arithmetic.specs.Arithmetic.{divided}
use Rattle.evaluation.proofs.quotients.divide.Goals as goal

pub returns-in-Udiv : goal.returns-in-Udiv
unfolding divided
returns-in-Udiv c = rw c.in-Udiv.is

pub returns-in-Urem : goal.returns-in-Urem
unfolding divided
returns-in-Urem c = rw c.in-Urem.is (omega (arith, div-add-mod' c.args.a c.args.b))

pub returns-in-Sdiv : goal.returns-in-Sdiv
returns-in-Sdiv c = rw c.in-Sdiv.is c.signed_quotient.ensures

pub returns-in-Srem : goal.returns-in-Srem
returns-in-Srem c = rw c.in-Srem.is c.signed_remainder.ensures
