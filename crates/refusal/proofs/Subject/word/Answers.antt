use Rattle.refusal.proofs.Subject.word.Goals as goal

pub returns-in-Constraint : goal.returns-in-Constraint
returns-in-Constraint c = rw c.in-Constraint.is

pub returns-in-Answer : goal.returns-in-Answer
returns-in-Answer c = rw c.in-Answer.is

pub returns-in-Values : goal.returns-in-Values
returns-in-Values c = rw c.in-Values.is

pub returns-in-Verdicts : goal.returns-in-Verdicts
returns-in-Verdicts c = rw c.in-Verdicts.is

pub returns-in-Output : goal.returns-in-Output
returns-in-Output c = rw c.in-Output.is

pub returns-in-Call : goal.returns-in-Call
returns-in-Call c = rw c.in-Call.is

pub returns-in-Starts : goal.returns-in-Starts
returns-in-Starts c = rw c.in-Starts.is

pub returns-in-Lists : goal.returns-in-Lists
returns-in-Lists c = rw c.in-Lists.is

pub returns-in-Results : goal.returns-in-Results
returns-in-Results c = rw c.in-Results.is
