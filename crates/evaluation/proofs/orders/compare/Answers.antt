use Rattle.std.proofs.Common.{sym}
use Rattle.arithmetic.specs.declared.Comparison.TheVariants.{Equal, NotEqual, Ule, Uge, Ult, Ugt, Sle, Sge, Slt, Sgt}
use Rattle.arithmetic.proofs.OrderLaws.{compared_is}
use Rattle.evaluation.proofs.orders.compare.Goals as goal

pub returns-in-Equal : goal.returns-in-Equal
returns-in-Equal c = rw c.in-Equal.is (sym (compared_is c.args.k c.args.a c.args.b c.requires.least c.requires.bound c.requires.bound₂ Equal))

pub returns-in-NotEqual : goal.returns-in-NotEqual
returns-in-NotEqual c = rw c.in-NotEqual.is (sym (compared_is c.args.k c.args.a c.args.b c.requires.least c.requires.bound c.requires.bound₂ NotEqual))

pub returns-in-Ule : goal.returns-in-Ule
returns-in-Ule c = rw c.in-Ule.is (sym (compared_is c.args.k c.args.a c.args.b c.requires.least c.requires.bound c.requires.bound₂ Ule))

pub returns-in-Uge : goal.returns-in-Uge
returns-in-Uge c = rw c.in-Uge.is (sym (compared_is c.args.k c.args.a c.args.b c.requires.least c.requires.bound c.requires.bound₂ Uge))

pub returns-in-Ult : goal.returns-in-Ult
returns-in-Ult c = rw c.in-Ult.is (sym (compared_is c.args.k c.args.a c.args.b c.requires.least c.requires.bound c.requires.bound₂ Ult))

pub returns-in-Ugt : goal.returns-in-Ugt
returns-in-Ugt c = rw c.in-Ugt.is (sym (compared_is c.args.k c.args.a c.args.b c.requires.least c.requires.bound c.requires.bound₂ Ugt))

pub returns-in-Sle : goal.returns-in-Sle
returns-in-Sle c = rw (c.in-Sle.is, c.biased-in-Sle.ensures, c.biased.ensures) (sym (compared_is c.args.k c.args.a c.args.b c.requires.least c.requires.bound c.requires.bound₂ Sle))

pub returns-in-Sge : goal.returns-in-Sge
returns-in-Sge c = rw (c.in-Sge.is, c.biased-in-Sge-2.ensures, c.biased-in-Sge.ensures) (sym (compared_is c.args.k c.args.a c.args.b c.requires.least c.requires.bound c.requires.bound₂ Sge))

pub returns-in-Slt : goal.returns-in-Slt
returns-in-Slt c = rw (c.in-Slt.is, c.biased-in-Slt-2.ensures, c.biased-in-Slt.ensures) (sym (compared_is c.args.k c.args.a c.args.b c.requires.least c.requires.bound c.requires.bound₂ Slt))

pub returns-in-Sgt : goal.returns-in-Sgt
returns-in-Sgt c = rw (c.in-Sgt.is, c.biased-in-Sgt-2.ensures, c.biased-in-Sgt.ensures) (sym (compared_is c.args.k c.args.a c.args.b c.requires.least c.requires.bound c.requires.bound₂ Sgt))
