use Rattle.std.proofs.Common.{◌*◌, sym, mod-lt, pow_pos}
use Rattle.arithmetic.specs.Arithmetic.{computed, divided}
use Rattle.arithmetic.proofs.ModuloLaws.{modulo_lt, srem_is}
use Rattle.evaluation.proofs.quotients.signed_remainder.Goals as goal

pub compute-requires : goal.compute-requires
unfolding divided
compute-requires c = record { least = c.requires.0.least; most = c.requires.0.most; bound = rw c.signed_quotient-q.ensures (modulo_lt c.args.k _); bound₂ = c.requires.0.bound₂ }

pub compute-requires-2 : goal.compute-requires-2
unfolding computed
compute-requires-2 c = record {
  least = c.requires.0.least;
  most = c.requires.0.most;
  bound = c.requires.0.bound;
  bound₂ = rw c.compute.ensures (mod-lt (c.signed_quotient-q.result * c.args.b) (pow_pos c.args.k));
}

pub returns : goal.returns
returns c = rw (c.compute-2.ensures, c.compute.ensures, c.signed_quotient-q.ensures) (sym (srem_is c.args.k c.args.a c.args.b c.requires.0.bound c.requires.0.bound₂))
