use Rattle.std.proofs.Common.{◌≡◌, ℕ, ◌-◌, ◌/◌, pos, neg_ℤ, nat_abs, ap, ◌∙◌, ap₂, arith, pow_pos}
use Rattle.arithmetic.specs.Signed.{signed, modulo, ceiling}
use Rattle.arithmetic.proofs.Powers.{double}
use Rattle.arithmetic.proofs.SignedLaws.{magnitude_pos, magnitude_le, ceiling_le, sdiv_agree, sdiv_differ}
use Rattle.evaluation.proofs.quotients.signed_quotient.Goals as goal

pub rounded_up-requires : goal.rounded_up-requires
rounded_up-requires c = rw c.magnitude-y.ensures (magnitude_pos c.args.k c.args.b c.requires.0.bound₂ c.requires.1)

pub negative-requires : goal.negative-requires
negative-requires c = let k = c.args.k in
    let x = nat_abs (signed k c.args.a) in
    let y = nat_abs (signed k c.args.b) in
    let e : c.rounded_up.result ≡ ceiling x y = c.rounded_up.ensures ∙ ap₂ ceiling c.magnitude-x.ensures c.magnitude-y.ensures in
    record {
      least = c.requires.0.least;
      most = c.requires.0.most;
      bound = omega (arith, e, ceiling_le x y (magnitude_pos k c.args.b c.requires.0.bound₂ c.requires.1), magnitude_le k c.args.a c.requires.0.least c.requires.0.bound, double k c.requires.0.least, pow_pos (k - 1));
    }

pub returns-then-a-t : goal.returns-then-a-t
returns-then-a-t c = ap₂ (λ (x y : ℕ). x / y) c.magnitude-x.ensures c.magnitude-y.ensures
    ∙ sdiv_agree c.args.k c.args.a c.args.b c.requires.0.bound c.requires.0.bound₂ c.requires.0.least (rw c.top-t.ensures at c.if-a-t.true)

pub returns-else-a-t : goal.returns-else-a-t
returns-else-a-t c = c.negative.ensures
    ∙ ap (λ (q : ℕ). modulo c.args.k (neg_ℤ (pos q))) (c.rounded_up.ensures ∙ ap₂ ceiling c.magnitude-x.ensures c.magnitude-y.ensures)
    ∙ sdiv_differ c.args.k c.args.a c.args.b c.requires.0.bound c.requires.0.bound₂ (rw c.top-t.ensures at c.if-a-t.false)

pub nonzero_div-result : goal.nonzero_div-result
nonzero_div-result c = rw c.magnitude-y.ensures (magnitude_pos c.args.k c.args.b c.requires.0.bound₂ c.requires.1)
