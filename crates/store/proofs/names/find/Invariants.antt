use lib.ListN.{drop}
use Rattle.store.specs.Hash.{bucket_of}
use Rattle.store.specs.Names.{bucket_in}
use Rattle.store.proofs.ChainLaws.{Walk}
use Rattle.store.proofs.SearchLaws.{has}
use Rattle.store.proofs.names.find.Given as goal

-- `find` meets its contract. The loop's invariant: a walk along the chain, on which no variable passed has the name.
abbrev pub invariant-loop-entry : goal.invariant-loop-entry
invariant-loop-entry l = Walk (bucket_in l.file l.variables) l.n (has l.file l.variables (drop l.at l.text)) (bucket_of l.hash) l.entry

abbrev pub decreases-loop-entry : goal.decreases-loop-entry
decreases-loop-entry l = l.entry
