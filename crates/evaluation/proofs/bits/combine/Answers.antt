use Rattle.arithmetic.specs.declared.Bitwise.TheVariants.{And, Or, Xor}
use Rattle.arithmetic.proofs.PlaceLaws.{combined_is}
use Rattle.evaluation.proofs.bits.combine.Goals as goal

pub returns-in-And : goal.returns-in-And
returns-in-And c = rw c.in-And.is (combined_is And c.args.k c.args.a c.args.b c.requires.bound c.requires.bound₂)

pub returns-in-Or : goal.returns-in-Or
returns-in-Or c = rw c.in-Or.is (combined_is Or c.args.k c.args.a c.args.b c.requires.bound c.requires.bound₂)

pub returns-in-Xor : goal.returns-in-Xor
returns-in-Xor c = rw c.in-Xor.is (combined_is Xor c.args.k c.args.a c.args.b c.requires.bound c.requires.bound₂)
