use Rattle.judge.specs.Judge.{overall_of}
use Rattle.judge.proofs.verdicts.overall.Goals as goal

pub returns-in-Some : goal.returns-in-Some
unfolding overall_of
returns-in-Some c = rw (← c.first_verdict.ensures, c.in-Some.is)

pub returns-in-Some-first_verdict : goal.returns-in-Some-first_verdict
unfolding overall_of
returns-in-Some-first_verdict c = rw (← c.first_verdict.ensures, c.in_default.is, ← c.first_verdict-2.ensures, c.in-Some-first_verdict.is)

pub returns : goal.returns
unfolding overall_of
returns c = rw (← c.first_verdict.ensures, c.in_default.is, ← c.first_verdict-2.ensures, c.in_default-first_verdict.is)
