use native.Mathlib.Omega.{arith}
use borrow.Author.Rules.{rules}
use Rattle.store.specs.Tables.{first_entry}
use Rattle.store.proofs.variables.first_entry.Goals as goal

pub returns : goal.returns
unfolding first_entry
returns c = (search rules, omega arith)
