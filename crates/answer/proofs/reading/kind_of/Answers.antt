use mathlib.Core.Path.{sym, ◌∙◌}
use Rattle.answer.specs.Read.{answer_kind}
use Rattle.answer.proofs.reading.kind_of.Goals as goal

pub returns-then-leads : goal.returns-then-leads
unfolding answer_kind
returns-then-leads c = rw (sym c.leads.ensures ∙ c.if-leads.true)

pub returns-then-leads-2 : goal.returns-then-leads-2
unfolding answer_kind
returns-then-leads-2 c = rw (sym c.leads.ensures ∙ c.if-leads.false, sym c.leads-2.ensures ∙ c.if-leads-2.true)

pub returns-then-leads-3 : goal.returns-then-leads-3
unfolding answer_kind
returns-then-leads-3 c = rw (sym c.leads.ensures ∙ c.if-leads.false, sym c.leads-2.ensures ∙ c.if-leads-2.false, sym c.leads-3.ensures ∙ c.if-leads-3.true)

pub returns : goal.returns
unfolding answer_kind
returns c = rw (sym c.leads.ensures ∙ c.if-leads.false, sym c.leads-2.ensures ∙ c.if-leads-2.false, sym c.leads-3.ensures ∙ c.if-leads-3.false)
