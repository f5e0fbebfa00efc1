use native.Mathlib.Omega.{arith}
use Rattle.clean.proofs.LineLaws.{put_no_expectation, expectation_length, put_expectation}
use Rattle.clean.proofs.lines.put_expectation.Goals as goal

pub put_bytes-number-requires : goal.put_bytes-number-requires
put_bytes-number-requires c = omega (arith, rw c.in-Some.is at c.requires, expectation_length c.in-Some.n)

pub put_digits-requires : goal.put_digits-requires
put_digits-requires c = omega (arith, rw c.in-Some.is at c.requires, expectation_length c.in-Some.n)

pub returns-in_default : goal.returns-in_default
returns-in_default c = rw c.in_default.is (put_no_expectation _ _)

pub returns : goal.returns
returns c = rw c.in-Some.is (put_expectation c.in-Some.n (rw c.in-Some.is at c.requires) c.put_bytes-number.ensures c.put_digits.ensures)
