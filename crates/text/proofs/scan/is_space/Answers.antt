use mathlib.Core.Path.{◌≡◌, refl}
use native.Mathlib.Omega.{arith}
use borrow.Author.Tests.{ne_eqb}
use Rattle.text.specs.Bytes.{is_space}
use Rattle.text.proofs.scan.is_space.Goals as goal

-- `is_space` meets its contract: no byte above a space is white space.
pub returns-then-b-gt32 : goal.returns-then-b-gt32
unfolding is_space
returns-then-b-gt32 c = let b = c.args.b in
    rw (ne_eqb b 32 (λ (e : b ≡ 32). let z : ⊥ = omega arith in z), ne_eqb b 9 (λ (e : b ≡ 9). let z : ⊥ = omega arith in z))

pub returns-else-b-gt32 : goal.returns-else-b-gt32
unfolding is_space
returns-else-b-gt32 c = refl
