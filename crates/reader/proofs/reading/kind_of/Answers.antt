use mathlib.Core.Path.{sym, ◌∙◌}
use lib.ListN.{get_or}
use borrow.Author.Tests.{eq-eqb, ne_eqb}
use Rattle.constraint.specs.Read.{kind_of}
use Rattle.reader.proofs.ReaderLaws.{first_byte}
use Rattle.reader.proofs.reading.kind_of.Goals as goal

pub returns-then-line-at-eq35 : goal.returns-then-line-at-eq35
unfolding kind_of
returns-then-line-at-eq35 c = rw (first_byte c.args.line.now c.args.at, eq-eqb (get_or c.args.line.now c.args.at 0) 35 c.if-line-at-eq35.true)

pub returns-then-leads : goal.returns-then-leads
unfolding kind_of
returns-then-leads c = rw (first_byte c.args.line.now c.args.at, ne_eqb (get_or c.args.line.now c.args.at 0) 35 c.if-line-at-eq35.false, sym c.leads.ensures ∙ c.if-leads.true)

pub returns-then-leads-2 : goal.returns-then-leads-2
unfolding kind_of
returns-then-leads-2 c = rw (first_byte c.args.line.now c.args.at, ne_eqb (get_or c.args.line.now c.args.at 0) 35 c.if-line-at-eq35.false, sym c.leads.ensures ∙ c.if-leads.false, sym c.leads-2.ensures ∙ c.if-leads-2.true)

pub returns-then-leads-3 : goal.returns-then-leads-3
unfolding kind_of
returns-then-leads-3 c = rw (first_byte c.args.line.now c.args.at, ne_eqb (get_or c.args.line.now c.args.at 0) 35 c.if-line-at-eq35.false, sym c.leads.ensures ∙ c.if-leads.false, sym c.leads-2.ensures ∙ c.if-leads-2.false, sym c.leads-3.ensures ∙ c.if-leads-3.true)

pub returns-then-leads-4 : goal.returns-then-leads-4
unfolding kind_of
returns-then-leads-4 c = rw (first_byte c.args.line.now c.args.at, ne_eqb (get_or c.args.line.now c.args.at 0) 35 c.if-line-at-eq35.false, sym c.leads.ensures ∙ c.if-leads.false, sym c.leads-2.ensures ∙ c.if-leads-2.false, sym c.leads-3.ensures ∙ c.if-leads-3.false, sym c.leads-4.ensures ∙ c.if-leads-4.true)

pub returns-then-leads-5 : goal.returns-then-leads-5
unfolding kind_of
returns-then-leads-5 c = rw (first_byte c.args.line.now c.args.at, ne_eqb (get_or c.args.line.now c.args.at 0) 35 c.if-line-at-eq35.false, sym c.leads.ensures ∙ c.if-leads.false, sym c.leads-2.ensures ∙ c.if-leads-2.false, sym c.leads-3.ensures ∙ c.if-leads-3.false, sym c.leads-4.ensures ∙ c.if-leads-4.false, sym c.leads-5.ensures ∙ c.if-leads-5.true)

pub returns : goal.returns
unfolding kind_of
returns c = rw (first_byte c.args.line.now c.args.at, ne_eqb (get_or c.args.line.now c.args.at 0) 35 c.if-line-at-eq35.false, sym c.leads.ensures ∙ c.if-leads.false, sym c.leads-2.ensures ∙ c.if-leads-2.false, sym c.leads-3.ensures ∙ c.if-leads-3.false, sym c.leads-4.ensures ∙ c.if-leads-4.false, sym c.leads-5.ensures ∙ c.if-leads-5.false)
