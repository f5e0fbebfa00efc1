use Rattle.report.specs.Text.{overall_text}
use Rattle.report.proofs.put_overall.Goals as goal

pub put_bytes-requires : goal.put_bytes-requires
unfolding overall_text
put_bytes-requires c = rw c.in-Satisfied.is at c.requires

pub put_count-requires : goal.put_count-requires
unfolding overall_text
put_count-requires c = rw c.in-Violated.is at c.requires

pub put_count-requires-in-Disregarded : goal.put_count-requires-in-Disregarded
unfolding overall_text
put_count-requires-in-Disregarded c = rw c.in-Disregarded.is at c.requires

pub returns-in-Satisfied : goal.returns-in-Satisfied
unfolding overall_text
returns-in-Satisfied c = rw c.in-Satisfied.is c.put_bytes.ensures

pub returns-in-Violated : goal.returns-in-Violated
unfolding overall_text
returns-in-Violated c = rw c.in-Violated.is c.put_count.ensures

pub returns-in-Disregarded : goal.returns-in-Disregarded
unfolding overall_text
returns-in-Disregarded c = rw c.in-Disregarded.is c.put_count-in-Disregarded.ensures
